-- Lists of calls on books of two forms: where every call answers alike on both, so does every list, and what is heard, accepted, ended
-- undone, kept and committed on the one is so on the other.
use Rattle.std.specs.Prelude.{is_ok}
use Prim.Native.Nat.{ℕ}
use mathlib.Core.Path.{◌≡◌, refl, sym, ap, ◌∙◌}
use mathlib.Core.List.{List, [], ◌∷◌, map, map-map}
use mathlib.Core.Bool.{Bool, ◌&&◌}
use Rattle.rules.specs.Basics.{every, Each, nil, cons}
use Rattle.rules.specs.Requests.{Kind, open_batch, undo, keep, ask, commit}
use Rattle.rules.specs.Calls.{Call, Answer, carried, call_kind, ◌one_of◌}
use Rattle.rules.specs.Lists.{Run, runs, after, accepts_as, heard, ends_no_batch, UndoneBatch, EmptyKeptBatch}
use Rattle.rules.specs.Asks.{call_account, no_ask_of, only_asks, AskCommitted, CommittedAsAsked}
use Rattle.rules.proofs.Lists.CallLists.{after_keeps}

every_map : {A B : Type 0} (p : B → Bool) (f : A → B) (xs : List A) → every p (map f xs) ≡ every (λ x. p (f x)) xs
unfolding every
every_map p f [] = refl
every_map p f (x ∷ xs) = ap (λ (t : Bool). p (f x) && t) (every_map p f xs)

-- a call with its answer, the book in another form
abbrev pub carried_run : {A B : Type 0} → (A → B) → Run A → Run B
carried_run form x = record { call = x.call; answer = carried form x.answer }

-- good books of one form, and what they are in another: calls of the sort leave good books, and every call answers alike on both
pub record Carries {A B : Type 0} (answer : A → Call → Answer A) (other : B → Call → Answer B) (form : A → B) (Good : A → Type 0) (Sort : Call → Type 0) : Type 0 where
  pub keeps : (a : A) (c : Call) → Sort c → Good a → Good (answer a c).book
  pub alike : (a : A) (c : Call) → Good a → other (form a) c ≡ carried form (answer a c)

module _ {A B : Type 0} {answer : A → Call → Answer A} {other : B → Call → Answer B} {form : A → B} {Good : A → Type 0} {Sort : Call → Type 0}
    (k : Carries answer other form Good Sort) where
  -- a list answers alike on both, and leaves the same book
  list_carried : (a : A) (cs : List Call) → Each Sort cs → Good a
      → (runs other (form a) cs ≡ map (carried_run form) (runs answer a cs)) × (after other (form a) cs ≡ form (after answer a cs))
  unfolding runs after
  list_carried a [] nil g = (refl, refl)
  list_carried a (c ∷ cs) (cons p e) g =
      let rest = list_carried (answer a c).book cs e (k.keeps a c p g) in
      (rw (k.alike a c g, rest.0), rw (k.alike a c g) rest.1)

  module _ (a : A) (cs : List Call) (e : Each Sort cs) (g : Good a) where
    pub runs-carried : runs other (form a) cs ≡ map (carried_run form) (runs answer a cs)
    runs-carried = (list_carried a cs e g).0

    pub after_carried : after other (form a) cs ≡ form (after answer a cs)
    after_carried = (list_carried a cs e g).1

    pub heard_carried : heard other (form a) cs ≡ heard answer a cs
    unfolding heard
    heard_carried = rw (runs-carried, map-map)

    ends_carried : ends_no_batch other (form a) cs ≡ ends_no_batch answer a cs
    unfolding ends_no_batch
    ends_carried = rw (runs-carried, every_map)

    no_ask_carried : (n : ℕ) → no_ask_of other n (form a) cs ≡ no_ask_of answer n a cs
    unfolding no_ask_of
    no_ask_carried n = rw (runs-carried, every_map)

    only_asks_carried : only_asks other (form a) cs ≡ only_asks answer a cs
    unfolding only_asks
    only_asks_carried = rw (runs-carried, every_map)

  pub accepts_carried : (ks : List Kind) (a : A) (c : Call) → Good a → accepts_as other ks (form a) c ≡ accepts_as answer ks a c
  accepts_carried ks a c g = ap (λ (x : Answer B). is_ok x.outcome && call_kind c one_of ks) (k.alike a c g)

  -- a batch undone on the other form is undone on the one
  pub undone_carried : (a : A) (opening : Call) (between : List Call) (undoing : Call) → Each Sort (opening ∷ between) → Good a
      → UndoneBatch other (form a) opening between undoing → UndoneBatch answer a opening between undoing
  undone_carried a opening between undoing (cons p e) g batch =
      let one : List Call = opening ∷ [] in
      let many : List Call = opening ∷ between in
      record {
        opens = sym (accepts_carried (open_batch ∷ []) a opening g) ∙ batch.opens;
        goes_on =
            sym (ap (λ (b : B). ends_no_batch other b between) (after_carried a one (cons p nil) g)
            ∙ ends_carried (after answer a one) between e (after_keeps answer k.keeps a one (cons p nil) g))
            ∙ batch.goes_on;
        undoes =
            sym (ap (λ (b : B). accepts_as other (undo ∷ []) b undoing) (after_carried a many (cons p e) g)
            ∙ accepts_carried (undo ∷ []) (after answer a many) undoing (after_keeps answer k.keeps a many (cons p e) g))
            ∙ batch.undoes;
      }

  -- an empty batch kept on the other form is kept on the one
  pub kept_carried : (a : A) (opening keeping : Call) → Sort opening → Good a → EmptyKeptBatch other (form a) opening keeping → EmptyKeptBatch answer a opening keeping
  kept_carried a opening keeping p g batch =
      let one : List Call = opening ∷ [] in
      record {
        opens = sym (accepts_carried (open_batch ∷ []) a opening g) ∙ batch.opens;
        keeps =
            sym (ap (λ (b : B). accepts_as other (keep ∷ []) b keeping) (after_carried a one (cons p nil) g)
            ∙ accepts_carried (keep ∷ []) (after answer a one) keeping (after_keeps answer k.keeps a one (cons p nil) g))
            ∙ batch.keeps;
      }

  module _ (a : A) (asking : Call) (between : List Call) (committing : Call) (p : Sort asking) (e : Each Sort between) (g : Good a) where
    abbrev one : List Call
    one = asking ∷ []

    abbrev many : List Call
    many = asking ∷ between

    good_one : Good (after answer a one)
    good_one = after_keeps answer k.keeps a one (cons p nil) g

    good_many : Good (after answer a many)
    good_many = after_keeps answer k.keeps a many (cons p e) g

    there : after other (form a) many ≡ form (after answer a many)
    there = after_carried a many (cons p e) g

    -- an ask committed on the other form is committed on the one
    pub committed_carried : AskCommitted other (form a) asking between committing → AskCommitted answer a asking between committing
    committed_carried pair =
        record {
          asks = sym (accepts_carried (ask ∷ []) a asking g) ∙ pair.asks;
          latest =
              sym (ap (λ (b : B). no_ask_of other (call_account asking) b between) (after_carried a one (cons p nil) g)
              ∙ no_ask_carried (after answer a one) between e good_one (call_account asking))
              ∙ pair.latest;
          commits =
              sym (ap (λ (b : B). accepts_as other (commit ∷ []) b committing) there
              ∙ accepts_carried (commit ∷ []) (after answer a many) committing good_many)
              ∙ pair.commits;
          own = pair.own;
        }

    -- and what is so on the one is so on the other
    pub as_asked_carried : CommittedAsAsked answer a asking between committing → CommittedAsAsked other (form a) asking between committing
    as_asked_carried same =
        record {
          only_asks =
              ap (λ (b : B). only_asks other b between) (after_carried a one (cons p nil) g)
              ∙ only_asks_carried (after answer a one) between e good_one
              ∙ same.only_asks;
          same_answer =
              ap (λ (b : B). (other b committing).outcome) there
              ∙ ap (λ (x : Answer B). x.outcome) (k.alike (after answer a many) committing good_many)
              ∙ same.same_answer
              ∙ ap (λ (x : Answer B). x.outcome) (sym (k.alike a asking g));
          same_row = same.same_row;
        }

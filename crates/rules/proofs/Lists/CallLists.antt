-- Lists of calls put together, and calls in the place of others, whatever form the book has: calls that lead to the same book leave the
-- same trace after them.
use Rattle.std.specs.Prelude.{is_ok}
use Rattle.rules.specs.Verdicts.{Verdict}
use Prim.Native.Nat.{ℕ, suc, ◌+◌}
use mathlib.Core.Path.{◌≡◌, refl, sym, ap, ◌∙◌}
use mathlib.Core.Logic.{◌⊎◌, inl, inr}
use mathlib.Core.List.{List, [], ◌∷◌, ◌++◌, append_assoc}
use mathlib.Core.Bool.{true, false}
use native.Mathlib.Omega.{arith}
use lib.ListN.{length, take, drop, length-append}
use lib.Seq.{take_at, drop_at}
use Rattle.rules.specs.Basics.{Each, nil, cons}
use Rattle.rules.specs.Books.{Book}
use Rattle.rules.specs.Calls.{Call, Answer, step}
use Rattle.rules.specs.Lists.{runs, after, accepts, Matched}
use Rattle.rules.proofs.Checks.Passed.{Passed, Kept, step_cases}

-- ---- lists, put together

module _ {B : Type 0} (answer : B → Call → Answer B) where
  pub runs_length : (b : B) (cs : List Call) → length (runs answer b cs) ≡ length cs
  unfolding runs
  runs_length b [] = refl
  runs_length b (c ∷ cs) = ap suc (runs_length (answer b c).book cs)

  pub after_append : (b : B) (xs ys : List Call) → after answer b (xs ++ ys) ≡ after answer (after answer b xs) ys
  unfolding after
  after_append b [] ys = refl
  after_append b (c ∷ xs) ys = after_append (answer b c).book xs ys

  pub runs_append : (b : B) (xs ys : List Call) → runs answer b (xs ++ ys) ≡ runs answer b xs ++ runs answer (after answer b xs) ys
  unfolding runs after
  runs_append b [] ys = refl
  runs_append b (c ∷ xs) ys = rw (runs_append (answer b c).book xs ys)

  -- calls that lead to the same book may stand in each other's place
  pub matched : (b : B) (before calls others rest : List Call)
      → after answer (after answer b before) calls ≡ after answer (after answer b before) others → Matched answer b before calls others rest
  matched b before calls others rest same =
      let there : after answer b (before ++ calls) ≡ after answer b (before ++ others)
      = after_append b before calls ∙ same ∙ sym (after_append b before others) in
      record {
        same_before = front calls ∙ sym (front others);
        same_after = back calls ∙ ap (λ (x : B). runs answer x rest) there ∙ sym (back others);
        same_book =
            after_append b (before ++ calls) rest
            ∙ ap (λ (x : B). after answer x rest) there
            ∙ sym (after_append b (before ++ others) rest);
      }
    where
      front : (cs : List Call) → take (length before) (runs answer b (before ++ cs ++ rest)) ≡ runs answer b before
      front cs =
          ap (λ (xs : List Call). take (length before) (runs answer b xs)) (append_assoc before cs rest)
          ∙ ap (take (length before)) (runs_append b before (cs ++ rest))
          ∙ take_at (runs answer b before) _ (length before) (runs_length b before)

      back : (cs : List Call)
          → drop (length before + length cs) (runs answer b (before ++ cs ++ rest)) ≡ runs answer (after answer b (before ++ cs)) rest
      back cs =
          ap (drop (length before + length cs)) (runs_append b (before ++ cs) rest)
          ∙ drop_at (runs answer b (before ++ cs)) _ (length before + length cs) (runs_length b (before ++ cs) ∙ length-append before cs)

  -- what every call of some sort keeps, a list of them keeps
  pub after_keeps : {Good : B → Type 0} {Sort : Call → Type 0} → ((b : B) (c : Call) → Sort c → Good b → Good (answer b c).book)
      → (b : B) (cs : List Call) → Each Sort cs → Good b → Good (after answer b cs)
  unfolding after
  after_keeps keeps b [] nil g = g
  after_keeps keeps b (c ∷ cs) (cons p e) g = after_keeps keeps (answer b c).book cs e (keeps b c p g)

-- ---- accepted and refused

module _ {b : Book} {c : Call} where
  pub kept_refused : Kept b c → accepts step b c ≡ false
  kept_refused w = ap (λ (o : Verdict). is_ok o) w.outcome

  pub passed_accepted : Passed b c → accepts step b c ≡ true
  passed_accepted w = ap (λ (o : Verdict). is_ok o) w.outcome

accepts_go : (b : Book) (c : Call) → accepts step b c ≡ true → Kept b c ⊎ Passed b c → Passed b c
accepts_go b c h (inl w) = let n = kept_refused w in let z : ◌≡◌ {A = ℕ} 0 1 = cc in absurd (omega arith)
accepts_go b c h (inr w) = w

-- an accepted call passed every check
pub accepts_passed : (b : Book) (c : Call) → accepts step b c ≡ true → Passed b c
accepts_passed b c h = accepts_go b c h (step_cases b c)

refuses_go : (b : Book) (c : Call) → accepts step b c ≡ false → Kept b c ⊎ Passed b c → Kept b c
refuses_go b c h (inl w) = w
refuses_go b c h (inr w) = let n = passed_accepted w in let z : ◌≡◌ {A = ℕ} 0 1 = cc in absurd (omega arith)

-- a refused call leaves the book and both buffers as they were
pub refused_leaves_all : (b : Book) (c : Call) → accepts step b c ≡ false → Kept b c
refused_leaves_all b c h = refuses_go b c h (step_cases b c)

-- so that nothing may stand in its place
pub refused_like_nothing : (b : Book) (before : List Call) (c : Call) (rest : List Call) → accepts step (after step b before) c ≡ false
    → Matched step b before (c ∷ []) [] rest
unfolding after
refused_like_nothing b before c rest h = matched step b before (c ∷ []) [] rest (refused_leaves_all (after step b before) c h).book

-- Entries side by side in bytes: each by its number, there and back; what set-up bytes say, read at their own places.
use Prim.Native.Nat.{ℕ, zero, suc, ◌+◌, ◌-◌, ◌*◌, ◌≤◌, ◌<◌}
use mathlib.Core.Path.{◌≡◌, refl, sym, ap, ◌∙◌}
use mathlib.Core.List.{List, [], ◌∷◌, ◌++◌, map, append_assoc}
use native.Mathlib.Nat.{add-zero}
use native.Mathlib.Numerals.{add-one}
use native.Mathlib.Omega.{arith}
use lib.ListN.{length, get_or, take, drop, length-map, get_or-eq_default}
use lib.Seq.{take_at, drop_at, drop-drop}
use Rattle.wire.specs.Numbers.{number_at, Bytes}
use Rattle.wire.specs.Parts.{flat, chunks}
use Rattle.wire.proofs.PartLaws.{number_inner}
use Rattle.wire.proofs.SlotLaws.{length-chunks, chunk_at, chunks-within, flat-chunks, chunks_again, map_get}
use Rattle.units.specs.Units.{kwh, cents, cents_per_mwh}
use Rattle.rules.specs.Basics.{nth, entries, joined, Each, nil, cons}
use Rattle.rules.specs.declared.Counts.{Counts}
use Rattle.rules.specs.Books.{Account, counts_of, no_account, margins_at}
use Rattle.rules.specs.Opening.{counts_in, setup_of, estimates_in, operators_in, accounts_in, points_in, price_in, operator_in, margin_in, account_in, point_in, accounts_offset, points_offset, account_offset, lower_offset, upper_offset, Value, values_of, price_width, operator_entry, margin_width, account_entry, point_entry}
use Rattle.rules.proofs.Basics.Products.{stride}

-- ---- entries by number

module _ {A : Type 0} (w : ℕ) (say : List ℕ → A) where
  pub length_entries : (n : ℕ) (s : List ℕ) → length (entries w say n s) ≡ n
  unfolding entries
  length_entries n s = length-map (chunks w n s) say ∙ length-chunks w n s

  pub entry_at : (n i : ℕ) (s : List ℕ) (d : A) → i < n → get_or (entries w say n s) i d ≡ say (take w (drop (w * i) s))
  unfolding entries
  entry_at n i s d h = map_get say (chunks w n s) i [] d (rw length-chunks h) ∙ ap say (chunk_at w n s i h)

  -- counted from 1, of entries that begin at a place
  pub nth_entry : (n k at : ℕ) (s : List ℕ) (d : A) → 1 ≤ k → k ≤ n
      → nth (entries w say n (drop at s)) k d ≡ say (take w (drop (at + w * (k - 1)) s))
  nth_entry n zero at s d l h = absurd (omega arith)
  nth_entry n (suc i) at s d l h =
      let e : suc i - 1 ≡ i = omega arith in
      entry_at n i (drop at s) d (omega arith) ∙ rw (drop-drop (w * i) at s, e)

  -- the same, of an entry that was read at its place
  pub entry_by_number : (n k at from : ℕ) (s : List ℕ) (d : A) {r : A} → from ≡ at → 1 ≤ k → k ≤ n
      → r ≡ say (take w (drop (from + w * (k - 1)) s)) → r ≡ nth (entries w say n (drop at s)) k d
  entry_by_number n k at from s d e l h read = rw (nth_entry n k at s d l h, ← e) read

  -- what any bytes say has the property, and so has each entry
  pub each_entry : {P : A → Type 0} → ((c : List ℕ) → P (say c)) → (n : ℕ) (s : List ℕ) → Each P (entries w say n s)
  unfolding entries
  each_entry {P} f n s = go (chunks w n s)
    where
      go : (cs : List (List ℕ)) → Each P (map say cs)
      go [] = nil
      go (c ∷ cs) = cons (f c) (go cs)

  -- numbers that no entry has
  pub no_entry_zero : (n k : ℕ) (s : List ℕ) (d : A) → k < 1 → nth (entries w say n s) k d ≡ d
  no_entry_zero n zero s d h = refl
  no_entry_zero n (suc i) s d h = absurd (omega arith)

  pub no_entry_past : (n k : ℕ) (s : List ℕ) (d : A) → n < k → nth (entries w say n s) k d ≡ d
  no_entry_past n zero s d h = refl
  no_entry_past n (suc i) s d h = get_or-eq_default (entries w say n s) d (omega (arith, length_entries n s))

  -- entries inside the first bytes are entries of the whole
  pub entries_first : (n at m : ℕ) (s : List ℕ) → at + w * n ≤ m → entries w say n (drop at (take m s)) ≡ entries w say n (drop at s)
  unfolding entries
  entries_first n at m s h = ap (map say) (chunks-within w n at m s h)

-- ---- there and back

module _ {A : Type 0} (w : ℕ) (bytes : A → List ℕ) (say : List ℕ → A) where
  pub entries_joined : (xs : List A) (rest : List ℕ) → Each (λ x. say (bytes x) ≡ x) xs → Each (λ x. length (bytes x) ≡ w) xs
      → entries w say (length xs) (joined bytes xs ++ rest) ≡ xs
  unfolding entries joined chunks flat
  entries_joined [] rest h wide = refl
  entries_joined (x ∷ xs) rest (cons e es) (cons l ls) =
      rw (
        append_assoc (bytes x) (joined bytes xs) rest,
        take_at (bytes x) (joined bytes xs ++ rest) w l,
        drop_at (bytes x) (joined bytes xs ++ rest) w l,
        e,
        entries_joined xs rest es ls,
      )

  pub joined_entries : (n : ℕ) (s : List ℕ) → Bytes s → w * n ≤ length s
      → ((x : List ℕ) → Bytes x → length x ≡ w → bytes (say x) ≡ x)
      → joined bytes (entries w say n s) ≡ take (w * n) s
  unfolding entries joined
  joined_entries n s b h back = rw (chunks_again w bytes say back n b h) (flat-chunks w n s)

-- ---- numbers inside an entry

module _ (s : List ℕ) (at : ℕ) where
  first : (w m : ℕ) → m ≤ w → number_at (take w (drop at s)) 0 m ≡ number_at s at m
  first w m h = number_inner m 0 w at s (omega arith) ∙ rw (add-zero at)

  pub price_at : price_in (take price_width (drop at s)) ≡ cents_per_mwh (number_at s at 4)
  unfolding price_in number_at
  price_at = refl

  pub operator_at : operator_in (take operator_entry (drop at s)) ≡ record { guarantee = cents (number_at s at 8); maintenance = number_at s (at + 8) 2 }
  unfolding operator_in
  operator_at = rw (first operator_entry 8 (omega arith), number_inner 2 8 operator_entry at s (omega arith))

  pub margin_at : margin_in (take margin_width (drop at s)) ≡ kwh (number_at s at margin_width)
  unfolding margin_in number_at
  margin_at = refl

  pub account_at : (n : Counts) → account_in n (take (account_entry n) (drop at s)) ≡
      record {
        operator = number_at s at 1;
        kind = number_at s (at + 1) 1;
        lower = entries margin_width margin_in n.hours (drop (at + lower_offset) s);
        upper = entries margin_width margin_in n.hours (drop (at + upper_offset n) s);
      }
  unfolding account_in account_entry
  account_at n =
      rw (
        first (account_entry n) 1 (omega arith),
        number_inner 1 1 (account_entry n) at s (omega arith),
        entries_first margin_width margin_in n.hours lower_offset (account_entry n) (drop at s) (omega arith),
        entries_first margin_width margin_in n.hours (upper_offset n) (account_entry n) (drop at s) (omega arith),
        drop-drop lower_offset at s,
        drop-drop (upper_offset n) at s,
      )

  pub point_at : point_in (take point_entry (drop at s)) ≡
      record {
        account = number_at s at 1;
        kind = number_at s (at + 1) 1;
        zone = number_at s (at + 2) 1;
        injection = kwh (number_at s (at + 3) 4);
        withdrawal = kwh (number_at s (at + 7) 4);
      }
  unfolding point_in
  point_at = rw (first point_entry 1 (omega arith), number_inner 1 1 point_entry at s (omega arith), number_inner 1 2 point_entry at s (omega arith), number_inner 4 3 point_entry at s (omega arith), number_inner 4 7 point_entry at s (omega arith))

-- ---- what set-up bytes say

module _ (s : List ℕ) where
  pub length_estimates : length (estimates_in s) ≡ (counts_in s).hours
  unfolding estimates_in
  length_estimates = simp length_entries

  pub length_operators : length (operators_in s) ≡ (counts_in s).operators
  unfolding operators_in
  length_operators = simp length_entries

  pub length_accounts : length (accounts_in s) ≡ (counts_in s).accounts
  unfolding accounts_in
  length_accounts = simp length_entries

  pub length_points : length (points_in s) ≡ (counts_in s).points
  unfolding points_in
  length_points = simp length_entries

  pub counts_of_setup : counts_of (setup_of s) ≡ counts_in s
  unfolding setup_of
  counts_of_setup = simp (length-map, length_operators, length_accounts, length_points)

-- ---- accounts

-- an account's entry ends with its upper margins
pub account_wide : (n : Counts) → account_entry n ≡ upper_offset n + margin_width * n.hours
unfolding account_entry
account_wide n = refl

-- an account's entry ends before the points begin
pub account_inside : (n : Counts) (a : ℕ) → 1 ≤ a → a ≤ n.accounts → account_offset n a + account_entry n ≤ points_offset n
account_inside n a low high = omega (arith, stride (account_entry n) (a - 1) n.accounts (omega arith))

-- an account that was read at its own place is the one of its number; another number has none
module _ (s : List ℕ) (n : Counts) (counted : n ≡ counts_in s) (a : ℕ) where
  pub account_numbered : {at : ℕ} {x : Account} → at ≡ account_offset n a → x ≡ account_in n (take (account_entry n) (drop at s))
      → 1 ≤ a → a ≤ n.accounts → x ≡ nth (accounts_in s) a no_account
  unfolding accounts_in
  account_numbered place read low high =
      entry_by_number (account_entry n) (account_in n) n.accounts a (accounts_offset n) (accounts_offset n) s no_account refl low high (rw (← place) read)
      ∙ ap (λ (c : Counts). nth (entries (account_entry c) (account_in c) c.accounts (drop (accounts_offset c) s)) a no_account) counted

  pub no_account_zero : a < 1 → nth (accounts_in s) a no_account ≡ no_account
  unfolding accounts_in
  no_account_zero = no_entry_zero (account_entry (counts_in s)) (account_in (counts_in s)) _ a _ no_account

  pub no_account_past : n.accounts < a → nth (accounts_in s) a no_account ≡ no_account
  unfolding accounts_in
  no_account_past h =
      no_entry_past (account_entry (counts_in s)) (account_in (counts_in s)) _ a _ no_account (omega (arith, ap (λ (c : Counts). c.accounts) counted))

-- ---- margins

-- the margin of an hour ends before the points begin
pub margin_inside : (n : Counts) (a h : ℕ) → 1 ≤ a → a ≤ n.accounts → 1 ≤ h → h ≤ n.hours
    → account_offset n a + upper_offset n + margin_width * (h - 1) + margin_width ≤ points_offset n
margin_inside n a h al ah hl hh = omega (arith, account_inside n a al ah, account_wide n)

-- the margins of an account in an hour, each read at its own place
module _ (s : List ℕ) (n : Counts) (counted : n ≡ counts_in s) (a h : ℕ) (al : 1 ≤ a) (ah : a ≤ n.accounts) (hl : 1 ≤ h) (hh : h ≤ n.hours)
  where
    -- one of the two lists, which begins at an offset of the entry
    listed : (from : ℕ) → nth (entries margin_width margin_in n.hours (drop (account_offset n a + from) s)) h (kwh 0)
        ≡ kwh (number_at s (account_offset n a + from + margin_width * (h - 1)) margin_width)
    listed from =
        nth_entry margin_width margin_in n.hours h (account_offset n a + from) s (kwh 0) hl hh
        ∙ margin_at s (account_offset n a + from + margin_width * (h - 1))

    pub margins_at_lem : margins_at (setup_of s) a h ≡
        record {
          lower = kwh (number_at s (account_offset n a + lower_offset + margin_width * (h - 1)) margin_width);
          upper = kwh (number_at s (account_offset n a + upper_offset n + margin_width * (h - 1)) margin_width);
        }
    unfolding setup_of
    margins_at_lem =
        let entry = account_numbered s n counted a refl (sym (account_at s (account_offset n a) n)) al ah in
        ap (λ (x : Account). record { lower = nth x.lower h (kwh 0); upper = nth x.upper h (kwh 0) }) (sym entry)
        ∙ rw (listed lower_offset, listed (upper_offset n))

-- ---- values, entry by entry

module _ {A : Type 0} (w : ℕ) (read : List ℕ → A) (say : ℕ → A → List Value) where
  -- no entries, no values
  pub values_done : (at n : ℕ) (s : List ℕ) → n ≤ 0 → values_of w say at (entries w read n s) ≡ []
  unfolding entries chunks values_of
  values_done at zero s h = refl
  values_done at (suc n) s h = absurd (omega arith)

  -- the values of the first entry, and then those of the others
  pub values_step : (at n m : ℕ) (s : List ℕ) → n ≡ m + 1
      → values_of w say at (entries w read n (drop at s))
      ≡ say at (read (take w (drop at s))) ++ values_of w say (at + w) (entries w read m (drop (at + w) s))
  unfolding entries chunks values_of
  values_step at n m s h = rw (h, add-one, drop-drop w at s)

  -- the values of some entries, and then those of the ones behind them
  pub values_split : (at n m : ℕ) (s : List ℕ)
      → values_of w say at (entries w read n (drop at s)) ++ values_of w say (at + w * n) (entries w read m (drop (at + w * n) s))
      ≡ values_of w say at (entries w read (n + m) (drop at s))
  values_split at zero m s =
      let e : at + w * 0 ≡ at = omega arith in
      let all : 0 + m ≡ m = omega arith in
      rw (values_done at 0 (drop at s) (omega arith), e, all)
  values_split at (suc n) m s =
      let e : at + w * suc n ≡ at + w + w * n = omega arith in
      rw (
        values_step at (suc n) n s (omega arith),
        values_step at (suc n + m) (n + m) s (omega arith),
        e,
        append_assoc (say at (read (take w (drop at s)))) (values_of w say (at + w) (entries w read n (drop (at + w) s))) (values_of w say (at + w + w * n) (entries w read m (drop (at + w + w * n) s))),
        values_split (at + w) n m s,
      )

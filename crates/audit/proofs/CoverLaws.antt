-- What is available to an operator, as the bytes of a part and of the set-up have it: the guarantee and the maintenance of its number.
use Prim.Native.Nat.{ℕ, zero, suc, ◌+◌, ◌-◌, ◌*◌, ◌≤◌}
use mathlib.Core.Path.{◌≡◌, sym, ap, ◌∙◌}
use mathlib.Core.List.{List, []}
use native.Mathlib.Omega.{arith}
use lib.ListN.{length, get_or, take, drop, length-map}
use lib.Seq.{drop-drop}
use lib.Dec.{leb}
use Rattle.wire.specs.Numbers.{number, number_at}
use Rattle.wire.specs.Parts.{chunks}
use Rattle.wire.proofs.SlotLaws.{length-chunks, chunk_at, map_get}
use Rattle.units.specs.declared.Cents.{Cents}
use Rattle.units.specs.Units.{cents}
use Rattle.rules.specs.declared.Counts.{Counts}
use Rattle.rules.specs.declared.Operator.{Operator}
use Rattle.rules.specs.declared.Row.{Row}
use Rattle.rules.specs.Basics.{nth, Each}
use Rattle.rules.specs.Limits.{most_guarantee, thousand}
use Rattle.rules.specs.Books.{operator_count, maintenance_at}
use Rattle.rules.specs.Opening.{counts_in, setup_of, operators_in, guarantee_width}
use Rattle.rules.specs.Registration.{exposure, available, covered}
use Rattle.rules.proofs.Basics.Searches.{each_at}
use Rattle.rules.proofs.Setups.SetupEntries.{length_operators, counts_of_setup}
use Rattle.setup.specs.Faults.{no_operator}
use Rattle.image.specs.Cells.{guarantees_from}
use Rattle.audit.specs.Validity.{part_with}

-- ---- guarantees

pub length-guarantees_from : (s : List ℕ) (at n : ℕ) → length (guarantees_from s at n) ≡ n
unfolding guarantees_from
length-guarantees_from s at n = length-map (chunks 8 n (drop at s)) (λ x. cents (number x)) ∙ length-chunks 8 n (drop at s)

guarantee_get : (s : List ℕ) (at n i : ℕ) → suc i ≤ n → get_or (guarantees_from s at n) i (cents 0) ≡ cents (number_at s (at + guarantee_width * i) guarantee_width)
unfolding guarantees_from number_at
guarantee_get s at n i h =
    let l = length-chunks 8 n (drop at s) in
    map_get (λ x. cents (number x)) (chunks 8 n (drop at s)) i [] (cents 0) (omega arith)
    ∙ ap (λ (x : List ℕ). cents (number x)) (chunk_at guarantee_width n (drop at s) i (omega arith) ∙ ap (take guarantee_width) (drop-drop (guarantee_width * i) at s))

-- the guarantee of an operator stands 8 bytes for each operator before it further
pub guarantee_read : (s : List ℕ) (at n k : ℕ) → 1 ≤ k → k ≤ n → nth (guarantees_from s at n) k (cents 0) ≡ cents (number_at s (at + guarantee_width * (k - 1)) guarantee_width)
guarantee_read s at n zero l u = absurd (omega arith)
guarantee_read s at n (suc i) l u =
    let e : suc i - 1 ≡ i = omega arith in
    guarantee_get s at n i u ∙ ap (λ (j : ℕ). cents (number_at s (at + guarantee_width * j) guarantee_width)) (sym e)

pub guarantee_small : (s : List ℕ) (at n k : ℕ) → Each (λ g. g.0 ≤ most_guarantee) (guarantees_from s at n) → 1 ≤ k → k ≤ n
    → number_at s (at + guarantee_width * (k - 1)) guarantee_width ≤ most_guarantee
guarantee_small s at n zero e l u = absurd (omega arith)
guarantee_small s at n (suc i) e l u =
    let c = length-guarantees_from s at n in
    omega (arith, ap (λ (g : Cents). g.0) (guarantee_read s at n (suc i) l u), each_at (cents 0) i e (omega arith))

-- ---- maintenance

pub maintenance_read : (s : List ℕ) (k : ℕ) → 1 ≤ k → k ≤ (counts_in s).operators
    → maintenance_at (setup_of s) k ≡ (nth (operators_in s) k no_operator).maintenance
unfolding setup_of
maintenance_read s zero l u = absurd (omega arith)
maintenance_read s (suc i) l u =
    let c = length_operators s in map_get (λ x. x.maintenance) (operators_in s) i no_operator 0 (omega arith)

pub maintenance_small : (s : List ℕ) (k : ℕ) → Each (λ m. m ≤ thousand) (setup_of s).maintenance → 1 ≤ k → k ≤ (counts_in s).operators
    → (nth (operators_in s) k no_operator).maintenance ≤ thousand
maintenance_small s zero e l u = absurd (omega arith)
maintenance_small s (suc i) e l u =
    let c : operator_count (setup_of s) ≡ (counts_in s).operators = ap (λ (n : Counts). n.operators) (counts_of_setup s) in
    omega (arith, maintenance_read s (suc i) l u, each_at 0 i e (omega arith))

-- ---- covered

-- an operator is covered where its exposure is at most what was read of its guarantee and maintenance
pub covered_read : (s : List ℕ) (at : ℕ) (rows : List Row) (k owed guarantee money : ℕ) (entry : Operator) → 1 ≤ k → k ≤ (counts_in s).operators
    → owed ≡ exposure (setup_of s) rows k → entry ≡ nth (operators_in s) k no_operator → guarantee ≡ number_at s (at + guarantee_width * (k - 1)) guarantee_width
    → money ≡ guarantee * (thousand - entry.maintenance)
    → leb owed money ≡ covered (setup_of s) (part_with s at rows) k
unfolding covered available
covered_read s at rows k owed guarantee money entry l u e o g m =
    let g1 : (nth (guarantees_from s at (counts_in s).operators) k (cents 0)).0 ≡ guarantee =
    ap (λ (x : Cents). x.0) (guarantee_read s at (counts_in s).operators k l u) ∙ sym g in
    let m1 : maintenance_at (setup_of s) k ≡ entry.maintenance = maintenance_read s k l u ∙ ap (λ (x : Operator). x.maintenance) (sym o) in
    rw (e, m, g1, m1)

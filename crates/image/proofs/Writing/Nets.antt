-- Net positions in bytes: rows that move the same have the same nets, and a confirmed row lowers those of its seller and raises those
-- of its buyer in its hours, and no others.
use Prim.Native.Nat.{ℕ, suc, ◌+◌, ◌-◌, ◌*◌, ◌/◌, ◌%◌, ◌^◌, ◌≤◌, ◌<◌}
use mathlib.Core.Path.{◌≡◌, refl, sym, ap, ◌∙◌}
use mathlib.Core.Logic.{◌⊎◌, inl, inr, ⊎_elim}
use mathlib.Core.List.{List, [], map}
use mathlib.Core.Bool.{true, and-false}
use native.Mathlib.Nat.{add-zero, mod-add-div, mul-add, mul-le-mul_left}
use native.Mathlib.Omega.{arith}
use lib.ListN.{length, get_or, set, length-map, length-set}
use lib.Seq.{ext_get_or, get_or-set_same, get_or-set_other}
use lib.Dec.{eqb, leb}
use lib.IntN.{sub_ℕ}
use borrow.Author.Tests.{le-leb, lt-leb, eq-eqb, ne_eqb}
use Rattle.wire.specs.Numbers.{number, le, signed}
use Rattle.wire.specs.Parts.{flat, sweep, over}
use Rattle.wire.proofs.NumberLaws.{length-le, length-signed, number_le_rest, le_wraps, ones, signed_sub}
use Rattle.wire.proofs.PartLaws.{before}
use Rattle.wire.proofs.SlotLaws.{Uniform, uniform_map, before_uniform, length_uniform, map_get}
use Rattle.wire.proofs.SweepLaws.{sweep_flat, sweep_cells, length_over, over_in, over_out}
use Rattle.rules.specs.declared.Row.{Row}
use Rattle.rules.specs.Basics.{nth, up_to, joined}
use Rattle.rules.specs.Limits.{most_accounts}
use Rattle.rules.specs.Books.{no_row}
use Rattle.rules.specs.Registration.{pending, seller, buyer, includes_hour, mark, bought, sold}
use Rattle.rules.proofs.Basics.Searches.{counting_at, counting-length}
use Rattle.rules.proofs.Rows.Balanced.{picked_in}
use Rattle.rules.proofs.Rows.AccountHours.{share, moved_confirm}
use Rattle.rules.proofs.Basics.Differences.{lt_or_ge}
use Rattle.image.specs.Layout.{account_width, net_width}
use Rattle.image.specs.Image.{account_nets, nets_bytes}
use Rattle.image.specs.Changes.{raised}
use Rattle.image.proofs.Writing.Sizes.{RowFits}

-- ---- a signed number raised

module _ (w : ℕ) where
  pub length_raised : (more : ℕ) (c : List ℕ) → length c ≡ w → length (raised w more c) ≡ w
  unfolding raised
  length_raised more c h = length-le w (number c + more)

  pub raised_le : (v more : ℕ) → raised w more (le w v) ≡ le w (v + more)
  unfolding raised
  raised_le v more =
      let m : ℕ = 256 ^ w in
      let q : ℕ = v / m in
      let split : v % m + m * q ≡ v = mod-add-div v m in
      rw (number_le_rest w v) (le_wraps w (v % m + more) (v + more) q 0 (omega arith))

  -- so much more bought
  pub raised_bought : (b s q : ℕ) → raised w q (signed w (sub_ℕ b s)) ≡ signed w (sub_ℕ (b + q) s)
  raised_bought b s q =
      let k : ℕ = 256 ^ w - 1 in
      let e : b + k * s + q ≡ b + q + k * s = omega arith in
      ap (raised w q) (signed_sub w b s) ∙ raised_le (b + k * s) q ∙ ap (le w) e ∙ sym (signed_sub w (b + q) s)

  -- so much more sold
  pub raised_sold : (b s q : ℕ) → q ≤ 256 ^ w → raised w (256 ^ w - q) (signed w (sub_ℕ b s)) ≡ signed w (sub_ℕ b (s + q))
  raised_sold b s q h =
      let m : ℕ = 256 ^ w in
      let k : ℕ = m - 1 in
      let a : k * (s + q) ≡ k * s + k * q = mul-add k s q in
      ap (raised w (m - q)) (signed_sub w b s)
      ∙ raised_le (b + k * s) (m - q)
      ∙ le_wraps w (b + k * s + (m - q)) (b + k * (s + q)) q 1 (omega (arith, ones w q))
      ∙ sym (signed_sub w b (s + q))

-- ---- nets by account and hour

-- these bytes for each account and hour
unfoldable pub nets_of : ℕ → (ℕ → ℕ → List ℕ) → List ℕ
nets_of top g = flat (map (λ a. flat (map (g a) (up_to top))) (up_to most_accounts))

pub nets_same : (top : ℕ) (g g' : ℕ → ℕ → List ℕ) → ((a h : ℕ) → g a h ≡ g' a h) → nets_of top g ≡ nets_of top g'
nets_same top g g' e = λ i. nets_of top (λ a h. e a h i)

pub nets_of_lem : (top : ℕ) (rows : List Row) → nets_bytes top rows ≡ nets_of top (λ a h. signed net_width (sub_ℕ (bought rows a h) (sold rows a h)))
unfolding nets_bytes account_nets joined nets_of
nets_of_lem top rows = refl

-- rows that move the same have the same nets
pub nets_kept : (top : ℕ) (rows rows' : List Row) → ((a h : ℕ) → bought rows' a h ≡ bought rows a h)
    → ((a h : ℕ) → sold rows' a h ≡ sold rows a h) → nets_bytes top rows' ≡ nets_bytes top rows
nets_kept top rows rows' b s =
    nets_of_lem top rows' ∙ nets_same top _ _ (λ a h. rw (b a h, s a h)) ∙ sym (nets_of_lem top rows)

-- ---- a loop over the hours of one account

-- what stands for the number k + 1 of those that are counted
pub up_to_at : (g : ℕ → List ℕ) (m k : ℕ) → k < m → get_or (map g (up_to m)) k [] ≡ g (suc k)
up_to_at g m k h =
    map_get g (up_to m) k 0 [] (rw counting-length h) ∙ ap g (counting_at m 1 0 k h ∙ omega arith)

length-up_to : (g : ℕ → List ℕ) (m : ℕ) → length (map g (up_to m)) ≡ m
length-up_to g m = length-map (up_to m) g ∙ counting-length m 1

or_not : (a b : ℕ) → (a ≡ b) ⊎ (a ≡ b → ⊥)
or_not a b =
    ⊎_elim (λ (l : a < b). inr (λ e. omega arith)) (λ (l : b ≤ a).
    ⊎_elim (λ (m : b < a). inr (λ e. omega arith)) (λ (m : a ≤ b). inl (omega arith)) (lt_or_ge b a)) (lt_or_ge a b)

-- f put to n of those that are counted, the first of which has i before it
over-up_to : (f : List ℕ → List ℕ) (g g' : ℕ → List ℕ) (m i n : ℕ) → i + n ≤ m
    → ((h : ℕ) → i < h → h ≤ i + n → f (g h) ≡ g' h) → ((h : ℕ) → (h ≤ i) ⊎ (i + n < h) → g h ≡ g' h)
    → over f i n (map g (up_to m)) ≡ map g' (up_to m)
over-up_to f g g' m i n l inside outside =
    let len : length (over f i n (map g (up_to m))) ≡ m = length_over f i n (map g (up_to m)) ∙ length-up_to g m in
    ext_get_or [] _ _ (len ∙ sym (length-up_to g' m)) (λ k h. at k (omega arith) ∙ sym (up_to_at g' m k (omega arith)))
  where
    at : (k : ℕ) → k < m → get_or (over f i n (map g (up_to m))) k [] ≡ g' (suc k)
    at k h =
        let out : (k < i) ⊎ (i + n ≤ k) → get_or (over f i n (map g (up_to m))) k [] ≡ g' (suc k) = λ o.
        over_out f i n (map g (up_to m)) k [] o
        ∙ up_to_at g m k h
        ∙ outside (suc k) (⊎_elim (λ (a : k < i). inl (omega arith)) (λ (a : i + n ≤ k). inr (omega arith)) o) in
        ⊎_elim (λ (a : k < i). out (inl a)) (λ (a : i ≤ k).
        ⊎_elim (λ (b : k < i + n).
        over_in f i n (map g (up_to m)) k [] a b (omega (arith, length-up_to g m))
        ∙ ap f (up_to_at g m k h)
        ∙ inside (suc k) (omega arith) (omega arith)) (λ (b : i + n ≤ k). out (inr b)) (lt_or_ge k (i + n))) (lt_or_ge k i)

-- one of those that are counted replaced
set-up_to : (g g' : ℕ → List ℕ) (m k : ℕ) → k < m → ((a : ℕ) → (a ≡ suc k → ⊥) → g a ≡ g' a)
    → set (map g (up_to m)) k (g' (suc k)) ≡ map g' (up_to m)
set-up_to g g' m k l other =
    let len : length (set (map g (up_to m)) k (g' (suc k))) ≡ m = length-set (map g (up_to m)) k _ ∙ length-up_to g m in
    ext_get_or [] _ _ (len ∙ sym (length-up_to g' m)) (λ j h. at j (omega arith) ∙ sym (up_to_at g' m j (omega arith)))
  where
    at : (j : ℕ) → j < m → get_or (set (map g (up_to m)) k (g' (suc k))) j [] ≡ g' (suc j)
    at j h =
        ⊎_elim (λ (e : j ≡ k).
        ap (λ (x : ℕ). get_or (set (map g (up_to m)) k (g' (suc k))) x []) e
        ∙ get_or-set_same (map g (up_to m)) k (g' (suc k)) [] (omega (arith, length-up_to g m))
        ∙ ap (λ (x : ℕ). g' (suc x)) (sym e)) (λ (n : j ≡ k → ⊥).
        get_or-set_other (map g (up_to m)) k j (g' (suc k)) [] n
        ∙ up_to_at g m j h
        ∙ other (suc j) (λ e. n (omega arith))) (or_not j k)

-- f where the loop goes, nothing else changed
pub sweep_nets : (f : List ℕ → List ℕ) → ((c : List ℕ) → length c ≡ net_width → length (f c) ≡ net_width)
    → (top a first n at : ℕ) (g g' : ℕ → ℕ → List ℕ) → ((x h : ℕ) → length (g x h) ≡ net_width)
    → 1 ≤ a → a ≤ most_accounts → 1 ≤ first → first + n ≤ suc top → at ≡ account_width top * (a - 1) + net_width * (first - 1)
    → ((h : ℕ) → first ≤ h → h < first + n → f (g a h) ≡ g' a h)
    → ((x h : ℕ) → (x ≡ a → (h < first) ⊎ (first + n ≤ h)) → g x h ≡ g' x h)
    → sweep f net_width (nets_of top g) at n ≡ nets_of top g'
unfolding nets_of
sweep_nets f keeps top a first n at g g' four a1 a2 f1 f2 e inside outside =
    let k : ℕ = a - 1 in
    let i : ℕ = first - 1 in
    let hours : ℕ → List ℕ = λ x. flat (map (g x) (up_to top)) in
    let hours' : ℕ → List ℕ = λ x. flat (map (g' x) (up_to top)) in
    let cs : List (List ℕ) = map hours (up_to most_accounts) in
    let u : (x : ℕ) → Uniform net_width (map (g x) (up_to top)) = λ x. uniform_map net_width (g x) (up_to top) (four x) in
    let w : (x : ℕ) → length (hours x) ≡ net_width * top = λ x. length_uniform net_width (map (g x) (up_to top)) (u x) ∙ rw (length-up_to (g x) top) in
    let lc : length cs ≡ most_accounts = length-up_to hours most_accounts in
    let b : before cs k ≡ net_width * top * k = before_uniform (net_width * top) cs k (uniform_map (net_width * top) hours (up_to most_accounts) w) (omega arith) in
    let ak : suc k ≡ a = omega arith in
    let ga : get_or cs k [] ≡ hours a = up_to_at hours most_accounts k (omega arith) ∙ ap hours ak in
    let p : at ≡ before cs k + net_width * i = omega arith in
    let one : sweep f net_width (flat cs) at n ≡ flat (set cs k (sweep f net_width (get_or cs k []) (net_width * i) n)) =
    ap (λ (z : ℕ). sweep f net_width (flat cs) z n) p ∙ sweep_flat f net_width keeps cs k (net_width * i) n (omega arith) (omega (arith, ap length ga, w a)) in
    let two : sweep f net_width (hours a) (net_width * i) n ≡ hours' a =
    sweep_cells f net_width keeps n (map (g a) (up_to top)) i (net_width * i) (u a) (omega (arith, length-up_to (g a) top)) refl
    ∙ ap flat (over-up_to f (g a) (g' a) top i n (omega arith) (λ h l m. inside h (omega arith) (omega arith)) (λ h o.
    outside a h (λ z. ⊎_elim (λ (v : h ≤ i). inl (omega arith)) (λ (v : i + n < h). inr (omega arith)) o))) in
    let three : set cs k (hours' a) ≡ map hours' (up_to most_accounts) =
    ap (λ (x : ℕ). set cs k (hours' x)) (sym ak)
    ∙ set-up_to hours hours' most_accounts k (omega arith) (λ x d.
    ap (λ (z : ℕ → List ℕ). flat (map z (up_to top))) (λ j h. outside x h (λ v. absurd (d (v ∙ sym ak))) j)) in
    one ∙ rw (ga, two, three)

-- ---- a confirmed row

-- the row has no share in what another account moves, nor in another hour
share_none : (party : Row → ℕ) (r : Row) (a h : ℕ) → (a ≡ party r → (h < r.first) ⊎ (r.last < h)) → share party a h r ≡ 0
share_none party r a h o =
    ⊎_elim (λ (e : a ≡ party r). ⊎_elim (λ (l : h < r.first). rw (lt-leb r.first h l)) (λ (l : r.last < h).
    rw (lt-leb h r.last l, and-false (leb r.first h))) (o e)) (λ (n : a ≡ party r → ⊥).
    rw (ne_eqb (party r) a (λ e. n (sym e)), and-false (includes_hour h r))) (or_not a (party r))

share_all : (party : Row → ℕ) (r : Row) (h : ℕ) → r.first ≤ h → h ≤ r.last → share party (party r) h r ≡ r.quantity.0
share_all party r h a b = rw (le-leb r.first h a, le-leb h r.last b, eq-eqb (party r) (party r) refl)

module _ (top : ℕ) (r : Row) (fit : RowFits top r) (n at : ℕ) (count : r.first + n ≡ suc r.last) where
  -- a loop over the row's hours of one party, of which net says how so much changes it
  sweep_party : (party : Row → ℕ) → 1 ≤ party r → party r ≤ most_accounts → at ≡ account_width top * (party r - 1) + net_width * (r.first - 1)
      → (f : List ℕ → List ℕ) → ((c : List ℕ) → length c ≡ net_width → length (f c) ≡ net_width)
      → (net : ℕ → ℕ → ℕ → List ℕ) → ((a h v : ℕ) → length (net a h v) ≡ net_width) → ((a h : ℕ) → f (net a h 0) ≡ net a h r.quantity.0)
      → sweep f net_width (nets_of top (λ a h. net a h 0)) at n ≡ nets_of top (λ a h. net a h (share party a h r))
  sweep_party party low high e f keeps net four moves =
      let fl = fit.first_low in
      let lh = fit.last_high in
      sweep_nets f keeps top (party r) r.first n at _ _ (λ a h. four a h 0) low high fl (omega arith) e (λ h l m.
      moves (party r) h ∙ ap (net (party r) h) (sym (share_all party r h l (omega arith)))) (λ a h o.
      ap (net a h) (sym (share_none party r a h (λ v. ⊎_elim (λ (l : h < r.first). inl l) (λ (l : r.first + n ≤ h). inr (omega arith)) (o v)))))

-- both parties are accounts that have a place
pub party_fits : (top : ℕ) (r : Row) → RowFits top r
    → ((1 ≤ seller r) × (seller r ≤ most_accounts)) × ((1 ≤ buyer r) × (buyer r ≤ most_accounts))
party_fits top r f =
    let p : (1 ≤ r.proposer) × (r.proposer ≤ most_accounts) = (f.proposer_low, f.proposer_high) in
    let c : (1 ≤ r.counterparty) × (r.counterparty ≤ most_accounts) = (f.counterparty_low, f.counterparty_high) in
    (picked_in most_accounts (eqb r.side 1) _ _ p c, picked_in most_accounts (eqb r.side 1) _ _ c p)

-- the nets of the seller lowered, then those of the buyer raised
pub nets_confirm : (top : ℕ) (rows : List Row) (named n low high : ℕ) (r : Row) → r ≡ nth rows named no_row → pending r ≡ true → RowFits top r
    → r.first + n ≡ suc r.last
    → low ≡ account_width top * (seller r - 1) + net_width * (r.first - 1)
    → high ≡ account_width top * (buyer r - 1) + net_width * (r.first - 1)
    → sweep (raised net_width r.quantity.0) net_width (sweep (raised net_width (256 ^ net_width - r.quantity.0)) net_width (nets_bytes top rows) low n) high n
    ≡ nets_bytes top (mark named 2 rows)
nets_confirm top rows named n low high r e pend fit count el eh =
    let q : ℕ = r.quantity.0 in
    let rows' : List Row = mark named 2 rows in
    let p = party_fits top r fit in
    let pend' : pending (nth rows named no_row) ≡ true = rw (← e) pend in
    let so : (a h : ℕ) → sold rows' a h ≡ sold rows a h + share seller a h r = λ a h.
    moved_confirm seller a h (λ status x. refl) rows named pend' ∙ rw (← e) in
    let bo : (a h : ℕ) → bought rows' a h ≡ bought rows a h + share buyer a h r = λ a h.
    moved_confirm buyer a h (λ status x. refl) rows named pend' ∙ rw (← e) in
    let less : ℕ → ℕ → ℕ → List ℕ = λ a h v. signed net_width (sub_ℕ (bought rows a h) (sold rows a h + v)) in
    let more : ℕ → ℕ → ℕ → List ℕ = λ a h v. signed net_width (sub_ℕ (bought rows a h + v) (sold rows' a h)) in
    let one : sweep (raised net_width (256 ^ net_width - q)) net_width (nets_bytes top rows) low n ≡ nets_of top (λ a h. more a h 0) =
    ap (λ (s : List ℕ). sweep (raised net_width (256 ^ net_width - q)) net_width s low n) (nets_of_lem top rows ∙ nets_same top _ _ (λ a h. rw (add-zero (sold rows a h))))
    ∙ sweep_party top r fit n low count seller p.0.0 p.0.1 el (raised net_width (256 ^ net_width - q)) (length_raised net_width (256 ^ net_width - q)) less
    (λ a h v. length-signed net_width _) (λ a h. rw (add-zero (sold rows a h)) (raised_sold net_width (bought rows a h) (sold rows a h) q fit.quantity_fits))
    ∙ nets_same top _ _ (λ a h. rw (add-zero (bought rows a h), so a h)) in
    let two : sweep (raised net_width q) net_width (nets_of top (λ a h. more a h 0)) high n ≡ nets_bytes top rows' =
    sweep_party top r fit n high count buyer p.1.0 p.1.1 eh (raised net_width q) (length_raised net_width q) more
    (λ a h v. length-signed net_width _) (λ a h. rw (add-zero (bought rows a h)) (raised_bought net_width (bought rows a h) (sold rows' a h) q))
    ∙ nets_same top _ _ (λ a h. rw (bo a h))
    ∙ sym (nets_of_lem top rows') in
    ap (λ (s : List ℕ). sweep (raised net_width q) net_width s high n) one ∙ two

-- the nets of an account's hours end inside those of the part
pub nets_end : (top a first n : ℕ) → 1 ≤ a → a ≤ most_accounts → 1 ≤ first → first + n ≤ suc top
    → account_width top * (a - 1) + net_width * (first - 1) + net_width * n ≤ most_accounts * account_width top
nets_end top a first n a1 a2 f1 f2 = omega (arith, mul-le-mul_left {m = a - 1} {n = 31} (net_width * top) (omega arith))

-- The keys by which pending rows alike are found: two numbers for each row, the same for two rows only where both are pending and
-- alike in proposer, counterparty and code.
use Rattle.std.specs.Prelude.{ℕ, zero, suc, ◌+◌, ◌-◌, ◌*◌, ◌/◌, ◌%◌, ◌<◌, ◌≡◌, Bool, true, false, not, ◌&&◌, ◌||◌, List, get_or, take, drop, eqb, if◌then◌else◌}
use Rattle.rules.specs.declared.Row.{Row}
use Rattle.rules.specs.Registration.{pending}
use Rattle.image.specs.Image.{row_in}
use Rattle.image.specs.Layout.{row_width}
use Rattle.audit.specs.declared.twins.Key.{Key}
use Rattle.audit.specs.declared.twins.Keys.{Keys}

-- the second number of the row that has i before it; the first is its code. A row that is not pending gets one that no other row has
abbrev pub pair_of : ℕ → Row → ℕ
pair_of i r = if pending r then r.proposer * 256 + r.counterparty else 65536 + i

-- the key of that row
abbrev pub key_of : ℕ → Row → Key
key_of i r = record { code = r.code; pair = pair_of i r }

-- marks that keys may have
abbrev pub marks : ℕ
marks = 8192

-- one of the marks for each key: any would do, and this one is seldom the same for two keys
unfoldable pub mark_of : Key → ℕ
mark_of x = (x.code % 4294967296 + x.code / 4294967296 + 257 * (x.pair % 4294967296)) % 4294967296 * 2654435761 / 524288 % marks

-- the two are the same key
abbrev pub same_key : Key → Key → Bool
same_key x y = eqb x.code y.code && eqb x.pair y.pair

-- the key at a place
abbrev pub key_at : Keys → ℕ → Key
key_at keys k = record { code = get_or keys.codes k 0; pair = get_or keys.pairs k 0 }

-- of the n keys from k on, one is this key
unfoldable pub key_among : Keys → Key → ℕ → ℕ → Bool
key_among keys x k zero = false
key_among keys x k (suc n) = same_key (key_at keys k) x || key_among keys x (k + 1) n

-- of n keys, one after place i is the key at i
abbrev pub key_repeats : Keys → ℕ → ℕ → Bool
key_repeats keys i n = key_among keys (key_at keys i) (i + 1) (n - (i + 1))

-- of the n keys from k on, no two are the same
unfoldable pub keys_apart : Keys → ℕ → ℕ → Bool
keys_apart keys k zero = true
keys_apart keys k (suc n) = not (key_among keys (key_at keys k) (k + 1) n) && keys_apart keys (k + 1) n

-- the keys of the n rows that stand in bytes from `at` on
pub record Keyed (s : List ℕ) (at n : ℕ) (keys : Keys) : Type 0 where
  pub code_at : (k : ℕ) → k < n → get_or keys.codes k 0 ≡ (row_in (take row_width (drop (at + row_width * k) s))).code
  pub pair_at : (k : ℕ) → k < n → get_or keys.pairs k 0 ≡ pair_of k (row_in (take row_width (drop (at + row_width * k) s)))

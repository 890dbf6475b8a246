-- The rows of a strip that is ready are rows of the book, pending, and of one proposer; so are those that are left from any place on.
use Prim.Native.Nat.{ℕ}
use mathlib.Core.Path.{◌≡◌, refl, ap}
use mathlib.Core.List.{List, [], map}
use mathlib.Core.Bool.{true}
use native.Mathlib.Omega.{arith}
use lib.ListN.{length, drop, length-map}
use Rattle.wire.specs.Numbers.{Bytes}
use Rattle.wire.proofs.NumberLaws.{bytes_drop}
use Rattle.wire.proofs.SlotLaws.{length-chunks}
use Rattle.rules.specs.declared.Request.{Request}
use Rattle.rules.specs.Basics.{Each}
use Rattle.rules.specs.Books.{Setup, Book}
use Rattle.rules.specs.Requests.{wanted_map, head_length, row_length, request_of}
use Rattle.rules.specs.Registration.{pending, proposed}
use Rattle.rules.proofs.Basics.Searches.{each_map, each_both, each_image, each_any, each_nth}
use Rattle.rules.proofs.Checks.Passed.{TradeFields}
use Rattle.rules.proofs.Records.Fields.{field_in_fits}
use Rattle.rules.proofs.Records.StripRows.{chunks_bytes}
use Rattle.image.proofs.Sound.Soundness.{SoundRow}
use Rattle.image.proofs.Keeping.KeepsKinds.{CodesFit, each_proposed_sound}
use Rattle.book.specs.Members.{IsAccount}
use Rattle.rules.specs.Strips.{IsRegister}
use Rattle.strip_rows.specs.Rows.{rows_from, requests_from}
use Rattle.strips.specs.Ready.{strip_requests, proposer, ReadyStrip}

-- as many requests as rows
pub requests_length : (s : List ℕ) (at n : ℕ) → length (requests_from s at n) ≡ n
unfolding rows_from
requests_length s at n = omega (arith, length-map (rows_from s at n) request_of, length-chunks row_length n (drop at s))

-- rows that are proposed wait
pub proposed-pending : (qs : List Request) → Each (λ r. pending r ≡ true) (map proposed qs)
proposed-pending qs = each_image proposed (each_any qs (λ q. refl))

-- registers say requests with their fields
registers_fields : {rows : List (List ℕ)} → Each IsRegister rows → Each TradeFields (map request_of rows)
unfolding request_of
registers_fields e = each_image request_of (each_map (λ r w. ap wanted_map w.of_kind) e)

codes : (s : List ℕ) (at n : ℕ) → Bytes s → CodesFit (requests_from s at n)
unfolding rows_from request_of
codes s at n bytes = each_image request_of (each_map (λ r h. field_in_fits h 3) (chunks_bytes row_length n (bytes_drop at bytes)))

-- a request of the account whose row is one of the book's
pub record OwnRow (u : Setup) (a : ℕ) (q : Request) : Type 0 where
  pub sound_row : SoundRow u (proposed q)
  pub own : q.account ≡ a

module _ (b : Book) (s : List ℕ) (n : ℕ) (bytes : Bytes s) (r : ReadyStrip b s n) where
  ready_fields : Each TradeFields (strip_requests s n)
  ready_fields = registers_fields r.is_strip.rows.registers

  pub ready_codes : CodesFit (strip_requests s n)
  ready_codes = codes s head_length n bytes

  pub ready_sound : Each (λ q. SoundRow b.setup (proposed q)) (strip_requests s n)
  ready_sound = each_proposed_sound b.setup ready_fields ready_codes r.in_range r.two_accounts

  -- each of its rows is one of the book's, and its proposer's own
  pub ready_rows : Each (OwnRow b.setup (proposer s n)) (strip_requests s n)
  ready_rows = each_both (λ q e f. record { sound_row = e; own = f }) ready_sound r.one_proposer

  -- the proposer is an account of the book
  pub proposer_known : IsAccount b (proposer s n)
  proposer_known =
      let first = each_nth (request_of []) 1 ready_sound (omega arith) (omega (arith, requests_length s head_length n, r.is_strip.some_rows)) in
      (first.proposer_low, first.proposer_high)

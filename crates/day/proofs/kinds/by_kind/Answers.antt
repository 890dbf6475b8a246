-- Each kind is answered by the function that is named in its arm; no other number comes there.
use Rattle.rules.specs.Limits.{most_hours, book_size}
use Rattle.rules.specs.Requests.{register, confirm, withdraw, guarantee, schedule, ask, commit}
use Rattle.image.proofs.Round.{book_is_sound}
use Rattle.day.proofs.RequestLaws.{plain_by_kind, none_left, none_first, ready_for}
use Rattle.std.proofs.Common.{arith}
use Rattle.day.proofs.kinds.by_kind.Goals as goal

pub register-requires : goal.register-requires
register-requires c =
    let both = ready_for _ _ register c.requires.known_book c.in-1.is c.requires.plain_kind.1 in record { known_book = both.0; ready = both.1 }

pub confirm-requires : goal.confirm-requires
confirm-requires c =
    let both = ready_for _ _ confirm c.requires.known_book c.in-2.is c.requires.plain_kind.1 in record { known_book = both.0; ready = both.1 }

pub withdraw-requires : goal.withdraw-requires
withdraw-requires c =
    let both = ready_for _ _ withdraw c.requires.known_book c.in-3.is c.requires.plain_kind.1 in record { known_book = both.0; ready = both.1 }

pub guarantee-requires : goal.guarantee-requires
guarantee-requires c =
    let both = ready_for _ _ guarantee c.requires.known_book c.in-4.is c.requires.plain_kind.1 in record { known_book = both.0; ready = both.1 }

pub schedule-requires : goal.schedule-requires
schedule-requires c =
    let both = ready_for _ _ schedule c.requires.known_book c.in-9.is c.requires.plain_kind.1 in record { known_book = both.0; ready = both.1 }

pub ask-requires : goal.ask-requires
ask-requires c =
    let both = ready_for _ _ ask c.requires.known_book c.in-12.is c.requires.plain_kind.1 in record { known_book = both.0; ready = both.1 }

pub commit-requires : goal.commit-requires
commit-requires c =
    record { known_book = c.requires.known_book; ready = (ready_for _ _ commit c.requires.known_book c.in-13.is c.requires.plain_kind.1).1 }

pub batch_or_gate-requires : goal.batch_or_gate-requires
batch_or_gate-requires c =
    record { known_book = book_is_sound most_hours book_size _ c.requires.known_book; batch_or_gate_kind = (omega arith, omega arith) }

pub returns-in-1 : goal.returns-in-1
returns-in-1 c =
    let both = plain_by_kind _ _ register c.in-1.is (c.register.ensures.answer, (c.register.ensures.bytes, c.register.ensures.still)) in record { answer = both.0; bytes = both.1.0; still = both.1.1 }

pub returns-in-2 : goal.returns-in-2
returns-in-2 c =
    let both = plain_by_kind _ _ confirm c.in-2.is (c.confirm.ensures.answer, (c.confirm.ensures.bytes, c.confirm.ensures.still)) in record { answer = both.0; bytes = both.1.0; still = both.1.1 }

pub returns-in-3 : goal.returns-in-3
returns-in-3 c =
    let both = plain_by_kind _ _ withdraw c.in-3.is (c.withdraw.ensures.answer, (c.withdraw.ensures.bytes, c.withdraw.ensures.still)) in record { answer = both.0; bytes = both.1.0; still = both.1.1 }

pub returns-in-4 : goal.returns-in-4
returns-in-4 c =
    let both = plain_by_kind _ _ guarantee c.in-4.is (c.guarantee.ensures.answer, (c.guarantee.ensures.bytes, c.guarantee.ensures.still)) in record { answer = both.0; bytes = both.1.0; still = both.1.1 }

pub returns-in-9 : goal.returns-in-9
returns-in-9 c =
    let both = plain_by_kind _ _ schedule c.in-9.is (c.schedule.ensures.answer, (c.schedule.ensures.bytes, c.schedule.ensures.still)) in record { answer = both.0; bytes = both.1.0; still = both.1.1 }

pub returns-in-12 : goal.returns-in-12
returns-in-12 c =
    let both = plain_by_kind _ _ ask c.in-12.is (c.ask.ensures.answer, (c.ask.ensures.bytes, c.ask.ensures.still)) in record { answer = both.0; bytes = both.1.0; still = both.1.1 }

pub returns-in-13 : goal.returns-in-13
returns-in-13 c =
    let both = plain_by_kind _ _ commit c.in-13.is (c.commit.ensures.answer, (c.commit.ensures.bytes, c.commit.ensures.still)) in record { answer = both.0; bytes = both.1.0; still = both.1.1 }

pub returns-in-5-to-8 : goal.returns-in-5-to-8
returns-in-5-to-8 c =
    record { answer = c.batch_or_gate.ensures.answer _; bytes = c.batch_or_gate.ensures.bytes _; still = c.batch_or_gate.ensures.still }

pub returns-in_default : goal.returns-in_default
returns-in_default c = absurd (none_first c.args.request.kind c.requires.plain_kind.0 (omega arith))

pub returns-in_default-2 : goal.returns-in_default-2
returns-in_default-2 c = absurd (none_left c.args.request.kind c.requires.plain_kind.0 (omega arith) (omega arith) (omega arith) (omega arith))

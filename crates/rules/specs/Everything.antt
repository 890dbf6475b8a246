-- All definitions that compute a replay, opened at once: an example says `unfolding everything`.
use Rattle.wire.specs.Numbers.{number, number_at, le, signed}
use Rattle.wire.specs.Parts.{flat, pieces, pack, chunks}
use Rattle.rules.specs.Basics.{total, any_passes, every, find, those, index_of, entries, joined, sum_of, all_of, counting, bit}
use Rattle.rules.specs.Verdicts.{first_to_apply}
use Rattle.rules.specs.Opening.{account_entry, price_in, operator_in, margin_in, account_in, point_in, estimates_in, operators_in, accounts_in, points_in, setup_of, guarantees_of, bad_counts, misshapen, operators_of, setup_bytes, values_of, estimate_values, operator_values, margin_values, account_values, point_values, values, faulty_offset, setup_refusal, open_refusal, open_outcome, opened}
use Rattle.rules.specs.Requests.{bits, map_of, room, offset, field_in, request_of, more, unreadable, read_checks, reading, strip_rows, row_checks, strip_checks, requests_of, field_bytes, write, write_outcome, written, in_range, faulty_field, faulty_bit, faulty_bit_among, same_accounts}
use Rattle.rules.specs.Registration.{mark, closed, same_terms, alike, twins, confirms, withdraws, mirrors, moved, waiting, after_trade, keeps_margins, broken_hour, of_operator, exposure_of, hourly_exposure_of, available, covered, accounts_of, account_hours_of}
use Rattle.rules.specs.Settlement.{prices_in, placed, insert, prioritised, used, judge, judged, settled, result_at, results, of_registered, gained, lost, balances, injections_worth, withdrawals_worth, registered_total, balance_bytes}
use Rattle.rules.specs.Valuation.{physical_balance, purchase, sale, hourly, of_account_hour, physical, cct, valued_hour, account_amount, operator_amount}
use Rattle.rules.specs.Calls.{apply, given, input_checks, state_checks, checks, refusal, drawn_up, settles, answer, step, worked_out, settlement}
use Rattle.rules.specs.Readings.{position, net_reading, exposure_reading, hourly_exposure_reading}
use Rattle.rules.specs.Lists.{runs, after, rows_registered, heard, ends_no_batch}
use Rattle.rules.specs.Replay.{items_within, items, call_of, numbered, answer_lines, calls, day, replay, digits, decimal, signed_decimal, line_text, text}
use Rattle.rules.specs.Ledger.{blank, new_ledger, without, page_after, feed, feed_each, fed, fed_all, traded, ledger_net, ledger_waiting, ledger_hour, ledger_exposure, ledger_hourly_exposure, ledger_available, ledger_settled}

unfoldable pub everything : Unit {0}
unfolding number number_at le signed flat pieces pack chunks
    total any_passes every find those index_of entries joined sum_of all_of counting bit
    first_to_apply
    account_entry price_in operator_in margin_in account_in point_in estimates_in operators_in accounts_in points_in setup_of guarantees_of bad_counts misshapen operators_of
    setup_bytes values_of estimate_values operator_values margin_values account_values point_values values faulty_offset setup_refusal open_refusal open_outcome opened
    bits map_of room offset field_in request_of more unreadable read_checks reading strip_rows row_checks strip_checks requests_of field_bytes write write_outcome written in_range
    faulty_field faulty_bit faulty_bit_among same_accounts
    mark closed same_terms alike twins confirms withdraws mirrors moved waiting after_trade keeps_margins broken_hour of_operator exposure_of hourly_exposure_of available covered accounts_of account_hours_of
    prices_in placed insert prioritised used judge judged settled result_at results of_registered gained lost balances
    injections_worth withdrawals_worth registered_total balance_bytes
    physical_balance purchase sale hourly of_account_hour physical cct valued_hour account_amount operator_amount
    apply given input_checks state_checks checks refusal drawn_up settles answer step worked_out settlement
    position net_reading exposure_reading hourly_exposure_reading
    runs after rows_registered heard ends_no_batch
    items_within items call_of numbered answer_lines calls day replay digits decimal signed_decimal line_text text
    blank new_ledger without page_after feed feed_each fed fed_all traded ledger_net ledger_waiting ledger_hour ledger_exposure ledger_hourly_exposure ledger_available ledger_settled
everything = tt

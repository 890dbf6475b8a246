-- The result is the rules' after the schedules before it, and the tables are brought up to date by that result.
use mathlib.Core.Path.{sym, ap, ◌∙◌}
use Rattle.rules.specs.declared.Point.{Point}
use Rattle.valuation.proofs.CongruityLaws.{on_point, point_stands, point_in_cells, account_read_in_cells}
use Rattle.valuation.proofs.ScheduleLaws.{in_lanes, carried_fits, carried-next}
use Rattle.settlement.proofs.judging.judge.Goals as goal

pub point-site-requires : goal.point-site-requires
point-site-requires c =
    point_stands _ c.requires.priced.0.is_sound _ c.requires.priced.1

pub result_of-requires : goal.result_of-requires
result_of-requires c =
    record { priced = c.requires.priced.0; on_point = (on_point _ c.requires.priced.0.is_sound _ c.requires.priced.1 _ c.point-site.ensures, c.requires.room_for.used_whole) }

pub use_up-requires : goal.use_up-requires
use_up-requires c =
    let on = on_point _ c.requires.priced.0.is_sound _ c.requires.priced.1 _ c.point-site.ensures in
    record { in_cells = (point_in_cells _ c.requires.priced.0.is_sound _ c.requires.priced.1, account_read_in_cells _ c.requires.priced.0.is_sound _ c.requires.priced.1 _ on.its_point); used_table = (c.requires.room_for.used_whole, c.requires.room_for.used_room) }

pub carried_by-more-requires : goal.carried_by-more-requires
carried_by-more-requires c =
    (c.requires.priced.0, on_point _ c.requires.priced.0.is_sound _ c.requires.priced.1 _ c.point-site.ensures)

pub add-requires : goal.add-requires
add-requires c =
    let on = on_point _ c.requires.priced.0.is_sound _ c.requires.priced.1 _ c.point-site.ensures in
    let fits = carried_fits c.requires.priced.0 on _ _ c.carried_by-more.ensures c.args.registered.now.energy c.args.registered.now.charges c.requires.room_for.energy_room c.requires.room_for.charges_room in
    let place = in_lanes c.requires.priced.0 on in
    record { has_lanes = ((c.requires.room_for.energy_whole, place), (c.requires.room_for.charges_whole, place)); energy_room = fits.0; charges_room = fits.1 }

pub returns : goal.returns
returns c =
    let on = on_point _ c.requires.priced.0.is_sound _ c.requires.priced.1 _ c.point-site.ensures in
    let account = ap (λ (p : Point). p.account) (sym on.its_point) in
    record {
      limits = record {
        result_is = λ before by each. c.number-result.ensures.0 ∙ c.result_of.ensures before by each;
        uses_up = λ before place by. c.use_up.ensures _ _ _ before place account by;
      };
      sums = λ before place by.
          carried-next c.requires.priced.0 on _ _ c.carried_by-more.ensures _ _ _ _ before place c.add.ensures.energy c.add.ensures.charges by;
    }

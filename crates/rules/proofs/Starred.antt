-- The starred cases of document 01 as one set: each prints what the paper says (specs/Examples.antt).
use Rattle.std.specs.Prelude.{[], ◌∷◌}
use Rattle.rules.specs.Basics.{Each, nil, cons}
use Rattle.rules.specs.Cases.{Prints}
use Rattle.rules.specs.Examples.{whole_case_lem, whole, selling_18001, sells_18001, ample_20000, sells_20000, ample_20001, sells_20001, hour_24_of_23, last_hour_24, quantity_0, sells_0, undo_unopened, undoes_nothing, code_reused, reuses_code, zone_price_met, meets_zone_price}

-- the joint set
pub starred :
    Each Prints (whole_case_lem ∷ selling_18001 ∷ ample_20000 ∷ ample_20001 ∷ hour_24_of_23 ∷ quantity_0 ∷ undo_unopened ∷ code_reused ∷ zone_price_met ∷ [])
starred =
    cons whole (cons sells_18001 (cons sells_20000 (cons sells_20001 (cons last_hour_24 (cons sells_0 (cons undoes_nothing (cons reuses_code (cons meets_zone_price nil))))))))

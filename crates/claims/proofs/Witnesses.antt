-- The figures that meet what the laws suppose, by computing.
use Rattle.std.proofs.Common.{◌≡◌, ℕ, zero, suc, Bool, cond, ℤ, pos, Some, None, Option, refl, subst, arith}
use Rattle.algebra.specs.Sums.{sum, ◌^ℤ◌}
use Rattle.layers.specs.Layers.{factor}
use Rattle.claims.specs.Polynomials.{Fits, Within, power_integrals}
use Rattle.claims.specs.Witnesses.{BandHasACase, LawsHaveCases, VerdictsHaveCases, cube, ledger_there}

no_value : (t : Bool) (v : ℤ) → cond {A = Option ℤ} t None None ≡ Some v → ⊥
no_value t v e = grind arith

-- a reading that is the value itself
at_station : (s : ℕ) (u v : ℤ) → Within cube s u 1 → ◌≡◌ {A = Option ℤ} (Some u) (Some v) → Within cube s v 1
at_station s u v h e = let same : u ≡ v = cc in subst (λ (t : ℤ). Within cube s t 1) same h

cube_fits : Fits cube ledger_there.readings
unfolding sum ◌^ℤ◌ factor
cube_fits zero v e = at_station 0 (pos 0) v (omega arith) e
cube_fits (suc zero) v e = at_station 1 (pos 1) v (omega arith) e
cube_fits (suc (suc zero)) v e = at_station 2 (pos 8) v (omega arith) e
cube_fits (suc (suc (suc zero))) v e = at_station 3 (pos 27) v (omega arith) e
cube_fits (suc (suc (suc (suc zero)))) v e = at_station 4 (pos 64) v (omega arith) e
cube_fits (suc (suc (suc (suc (suc s))))) v e = absurd (no_value _ v e)

band_case : BandHasACase
unfolding sum ◌^ℤ◌ factor power_integrals
band_case = record {
  made = refl;
  span = refl;
  degree = refl;
  result = refl;
  of_degree = record { few = omega arith; proper = omega arith };
  fits = cube_fits;
  integral_is = refl;
  within = (omega arith, omega arith);
}

verdict_cases : VerdictsHaveCases
unfolding sum ◌^ℤ◌
verdict_cases = record { spans = refl; apart = refl; meet = refl }

pub laws_have_cases_lem : LawsHaveCases
laws_have_cases_lem = (band_case, verdict_cases)

-- The figures, each table by one computation.
use Rattle.std.proofs.Common.{◌≡◌, List, [], ◌∷◌, map, refl}
use Rattle.algebra.specs.Divisors.{gcd, gcd_within}
use Rattle.algebra.specs.Sums.{sum, ◌^ℤ◌}
use Rattle.layers.specs.Layers.{factor}
use Rattle.figures.specs.Figures.{FiguresHold, polynomials_read, reading_of, reply_figures, result_figures, results, rules_made, verdict_within, verdicts}
use Rattle.figures.specs.Tables.{AllTell, Row}

-- where the two columns of a table agree, every row does
columns_agree : {A B : Type 0} (f : A → B) (rows : List (Row A B)) → map (λ row. f row.subject) rows ≡ map (λ row. row.told) rows → AllTell f rows
columns_agree f [] e = tt
columns_agree f (row ∷ rows) e = (cc, columns_agree f rows (cc))

rules_computed : map (λ row. reply_figures row.subject) rules_made ≡ map (λ row. row.told) rules_made
unfolding sum ◌^ℤ◌ factor gcd gcd_within
rules_computed = refl

polynomials_computed : map (λ row. reading_of row.subject) polynomials_read ≡ map (λ row. row.told) polynomials_read
unfolding sum ◌^ℤ◌
polynomials_computed = refl

results_computed : map (λ row. result_figures row.subject) results ≡ map (λ row. row.told) results
unfolding sum
results_computed = refl

verdicts_computed : map (λ row. verdict_within row.subject) verdicts ≡ map (λ row. row.told) verdicts
unfolding sum
verdicts_computed = refl

pub figures_hold_lem : FiguresHold
figures_hold_lem = record {
  rules = columns_agree reply_figures rules_made rules_computed;
  polynomials = columns_agree reading_of polynomials_read polynomials_computed;
  runs = columns_agree result_figures results results_computed;
  verdict = columns_agree verdict_within verdicts verdicts_computed;
}

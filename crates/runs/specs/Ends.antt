-- The fraction that an end of a band is.
use Rattle.runs.specs.declared.band_end.BandEnd.{BandEnd}
use Rattle.runs.specs.Fractions.{Fraction}

abbrev pub fraction_of : BandEnd → Fraction
fraction_of e = record { numerator = e.numerator; denominator = e.denominator }

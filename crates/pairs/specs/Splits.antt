-- Where the first of two cases ends.
use Rattle.std.specs.Prelude.{ℕ, ◌+◌, ◌*◌, cond, List, length, drop, nat_lt}
use Rattle.sources.specs.Surveys.{count_of}

-- the length of a survey by its count; 6 where there are no two bytes for a count
abbrev pub survey_length : List ℕ → ℕ
survey_length bytes = cond (nat_lt (length bytes) 2) 6 (6 + 6 * count_of bytes)

-- what stands after the first order and its survey
abbrev pub after_first : List ℕ → List ℕ
after_first input = drop (survey_length (drop 6 input)) (drop 6 input)

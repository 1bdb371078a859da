-- How many of a call's records there are, how many of them differ, and what is wrong with a list.
use Rattle.std.specs.Prelude.{Bool, List, ℕ}
use Rattle.stored_answers.specs.Records.{end_by, record_by, cases_by, differ_by, damage_by}
use Rattle.replay_calls.specs.Table.{last_call, lists_of}
use Rattle.replay.specs.Cases.{record_agrees}

-- where the record at a place ends, and where record i begins
abbrev pub end_of : List ℕ → ℕ → ℕ
end_of s at = end_by lists_of s at

abbrev pub record_at : List ℕ → ℕ → ℕ
record_at s i = record_by lists_of s i

-- record i agrees with what its call answers
abbrev pub agrees_at : List ℕ → ℕ → Bool
agrees_at s i = record_agrees s (record_at s i)

-- how many of the list's records are of call c, and how many of those differ
abbrev pub cases_of : List ℕ → ℕ → ℕ
cases_of s c = cases_by lists_of s c

abbrev pub differ_of : List ℕ → ℕ → ℕ
differ_of s c = differ_by lists_of (agrees_at s) s c

abbrev pub damage_of : List ℕ → ℕ
damage_of s = damage_by lists_of last_call s

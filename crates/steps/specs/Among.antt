-- The replacement of a path by another: lines 'Replace a state if ..' of silk_noise_shape_quantizer_del_dec, and docs/RULES.md, "One sample".
-- Costs here are totals, compared as they are, wrapped or not. Assumes nothing.
use Rattle.std.specs.Prelude.{ℕ, List, [], ◌∷◌, get_or, set, ℤ}
use Rattle.std.specs.Int.Signed.{lt_z}
use Rattle.fixed.specs.Iter.{iter, either}
use Rattle.path.specs.declared.structs.Candidate.{Candidate}
use Rattle.path.specs.declared.structs.Swap.{Swap}
use Rattle.fixed.specs.Row.{word}
use Rattle.path.specs.Data.{no_path, Paths, paths, candidate_at}
use Rattle.winner.specs.Winner.{least_of, worst_of}

-- the dearest first candidate by the cheapest second one, only if that is strictly cheaper
unfoldable pub swap_of : List (List Candidate) → ℕ → Swap
swap_of c n =
    record {
      yes = lt_z (candidate_at c (least_of c 1 n) 1).RD_Q10 (candidate_at c (worst_of c n) 0).RD_Q10;
      to = worst_of c n;
      by = least_of c 1 n;
    }

-- how the LPC words of a replaced path are made of its own, of those of the path that it becomes, and of the sample's place in its subframe.
-- Two rules have a name: the Rust's, which the entry promises, and the full copy, which the code makes. No call can tell them apart
-- (`full_copy:full-copy`)
abbrev pub Rule : Type 0
Rule = List ℤ → List ℤ → ℕ → List ℤ

-- one LPC word that stays
abbrev pub keep_turn : List ℤ → ℕ → List ℤ → List ℤ
keep_turn own j row = set row j (word own j)

-- the Rust's rule: words are copied from word i on, so the first i of its own stay
unfoldable pub keeps_first : Rule
keeps_first own by i = iter (keep_turn own) i by

-- the full copy: all words are copied, and none of its own stays
unfoldable pub full_copy : Rule
full_copy own by i = by

-- path `to` becomes path `by`, its LPC words by the rule
unfoldable pub copied : Rule → ℕ → ℕ → ℕ → Paths → Paths
copied rule to by i p =
    paths (set p.owns to (get_or p.owns by no_path))
    (set p.lpcs to (rule (get_or p.lpcs to []) (get_or p.lpcs by []) i))
    (set p.rings to (get_or p.rings by []))

-- the paths after the replacement, if there is one
unfoldable pub replaced : Rule → Swap → ℕ → Paths → Paths
replaced rule s i p = either s.yes (copied rule s.to s.by i p) p

-- the candidates after it: the second one moves over as the first
unfoldable pub moved_over : List (List Candidate) → Swap → List (List Candidate)
moved_over c s = either s.yes (set c s.to (candidate_at c s.by 1 ∷ candidate_at c s.to 1 ∷ [])) c

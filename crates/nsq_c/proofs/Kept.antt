-- What the rows give back: a state that was laid into them is read as it was, and a call that is refused touches none. Assumes nothing.
use Prim.Native.Nat.{ℕ, ◌+◌, ◌<◌}
use native.Mathlib.Omega.{arith}
use mathlib.Core.Path.{◌≡◌, refl, sym, ap, ◌∙◌, subst}
use mathlib.Core.Bool.{Bool, true, false}
use mathlib.Core.List.{List, ◌++◌, append_assoc}
use lib.ListN.{length, take, drop, set}
use lib.Seq.{take_at, drop_at, get_or-drop}
use lib.IntN.{ℤ, pos}
use lib.Dec.{eqb}
use borrow.Author.Tests.{eq-eqb, ne_eqb}
use Rattle.fixed.specs.Iter.{either}
use Rattle.silk.specs.declared.structs.NsqState.{NsqState}
use Rattle.steps.specs.Among.{keeps_first}
use Rattle.fixed.specs.Row.{word}
use Rattle.refusal_rules.specs.Code.{Answer, code_of}
use Rattle.steps.specs.Call.{Call}
use Rattle.steps.specs.Frame.{frame}
use Rattle.steps.specs.Entry.{Outcome, answered, taken, untouched, outcome, outcome_by}
use Rattle.steps.proofs.Outcomes.{refused-by}
use Rattle.settings_row.specs.Named.{settings_of}
use Rattle.plain_rows.specs.Layout.{state_of, scalars_of, words_of}
use Rattle.nsq_c.specs.Rows.{called}
use Rattle.nsq_c.specs.Report.{short_number, report_in, Reported, reported_of, with_report, reported}
use Rattle.plain_laid.specs.Laid.{Left, left_of, laid}
use Rattle.plain_answers.specs.Stateless.{stateless}
use Rattle.plain_fresh.specs.Fresh.{state_fits}
use Rattle.plain_rows.proofs.Laid.{joined}

-- ---- a state, laid and read
-- word k of what lies behind n others
word-behind : (p q : List ℤ) (n k : ℕ) → length p ≡ n → word (p ++ q) (n + k) ≡ word q k
word-behind p q n k e = sym (get_or-drop n (p ++ q) k (pos 0)) ∙ ap (λ (l : List ℤ). word l k) (drop_at p q n e)

-- the state of the rows that a state was laid into is that state
pub laid-read : (z : NsqState) → length z.sLTP_shp_Q14 ≡ 640 → length z.sLPC_Q14 ≡ 96 → length z.sAR2_Q14 ≡ 24
    → state_of z.xq (words_of z) ≡ z
unfolding state_of words_of scalars_of
laid-read z a b s =
    let shp = z.sLTP_shp_Q14 in
    let lpc = z.sLPC_Q14 in
    let ar = z.sAR2_Q14 in
    let sc = scalars_of z in
    let ab : length (shp ++ lpc) ≡ 736 = joined shp lpc 640 96 a b in
    let abs : length ((shp ++ lpc) ++ ar) ≡ 760 = joined (shp ++ lpc) ar 736 24 ab s in
    let from0 : ((shp ++ lpc) ++ ar) ++ sc ≡ shp ++ (lpc ++ (ar ++ sc)) = append_assoc (shp ++ lpc) ar sc ∙ append_assoc shp lpc (ar ++ sc) in
    let one : take 640 (((shp ++ lpc) ++ ar) ++ sc) ≡ shp = ap (λ (l : List ℤ). take 640 l) from0 ∙ take_at shp (lpc ++ (ar ++ sc)) 640 a in
    let two : take 96 (drop 640 (((shp ++ lpc) ++ ar) ++ sc)) ≡ lpc = ap (λ (l : List ℤ). take 96 (drop 640 l)) from0 ∙ ap (λ (l : List ℤ). take 96 l) (drop_at shp (lpc ++ (ar ++ sc)) 640 a) ∙ take_at lpc (ar ++ sc) 96 b in
    let three : take 24 (drop 736 (((shp ++ lpc) ++ ar) ++ sc)) ≡ ar = ap (λ (l : List ℤ). take 24 (drop 736 l)) (append_assoc (shp ++ lpc) ar sc) ∙ ap (λ (l : List ℤ). take 24 l) (drop_at (shp ++ lpc) (ar ++ sc) 736 ab) ∙ take_at ar sc 24 s in
    let at : (k : ℕ) → word (((shp ++ lpc) ++ ar) ++ sc) (760 + k) ≡ word sc k = λ k. word-behind ((shp ++ lpc) ++ ar) sc 760 k abs in
    rw (one, two, three, at 0, at 1, at 2, at 3, at 4, at 5, at 6)

-- ---- a refused call
-- the entry's answer is the table's
outcome-answer : (c : Call) (x out : List ℤ) → (outcome keeps_first c x out).answer ≡ answered c x out
unfolding outcome outcome_by
outcome-answer c x out = way (eqb (code_of (answered c x out)) 0)
  where
    way : (t : Bool) → (either t (taken (answered c x out) (frame keeps_first c x out)) (untouched (answered c x out) c out)).answer ≡ answered c x out
    way true = refl
    way false = refl

-- refused, it leaves the pulses
outcome-pulses : (c : Call) (x out : List ℤ) → 0 < code_of (outcome keeps_first c x out).answer → (outcome keeps_first c x out).pulses ≡ out
unfolding outcome
outcome-pulses c x out h =
    let k : 0 < code_of (answered c x out) = subst (λ (a : Answer). 0 < code_of a) (outcome-answer c x out) h in
    ap (λ (o : Outcome). o.pulses) (refused-by keeps_first c x out (answered c x out) k)

-- the number is the answer's
laid-number : (settings samples words : List ℤ) (o : Outcome) → (laid settings samples words o).number ≡ code_of o.answer
unfolding laid
laid-number settings samples words o = way (eqb (code_of o.answer) 0) (set settings 9 o.seed) o.state.xq (words_of o.state)
  where
    way : (t : Bool) (a b c : List ℤ) → (either t (left_of (code_of o.answer) a b c o.pulses) (left_of (code_of o.answer) settings samples words o.pulses)).number ≡ code_of o.answer
    way true a b c = refl
    way false a b c = refl

-- what the entry refuses is left as it was
laid_kept : (settings samples words out : List ℤ) (o : Outcome) → (0 < code_of o.answer → o.pulses ≡ out) → 0 < (laid settings samples words o).number → laid settings samples words o ≡ left_of (code_of o.answer) settings samples words out
unfolding laid
laid_kept settings samples words out o e h =
    let k : 0 < code_of o.answer = subst (λ (n : ℕ). 0 < n) (laid-number settings samples words o) h in
    rw (ne_eqb (code_of o.answer) 0 (λ z. omega arith), e k)

-- whatever number but 0 a call gives, every row is as it was
pub refused-kept : (settings samples words : List ℤ) (c : Call) (x out : List ℤ) → 0 < (called settings samples words c x out).number → called settings samples words c x out ≡ left_of (called settings samples words c x out).number settings samples words out
unfolding called
refused-kept settings samples words c x out = way (eqb (length settings) 12) (state_fits samples words)
  where
    short : Left
    short = left_of 5 settings samples words out

    way : (t u : Bool) → 0 < (either t (either u (laid settings samples words (outcome keeps_first c x out)) (left_of (code_of (stateless (settings_of settings))) settings samples words out)) short).number → either t (either u (laid settings samples words (outcome keeps_first c x out)) (left_of (code_of (stateless (settings_of settings))) settings samples words out)) short ≡ left_of (either t (either u (laid settings samples words (outcome keeps_first c x out)) (left_of (code_of (stateless (settings_of settings))) settings samples words out)) short).number settings samples words out
    way false u h = refl
    way true false h = refl
    way true true h = laid_kept settings samples words out (outcome keeps_first c x out) (outcome-pulses c x out) h ∙ ap (λ (n : ℕ). left_of n settings samples words out) (sym (laid-number settings samples words (outcome keeps_first c x out)))

-- .. and so is the row of the report
pub report-refused-kept : (settings samples words : List ℤ) (c : Call) (x out row : List ℤ) → 0 < (reported settings samples words c x out row).left.number
    → reported settings samples words c x out row ≡ reported_of (left_of (reported settings samples words c x out row).left.number settings samples words out) row
unfolding reported with_report
report-refused-kept settings samples words c x out row = way (eqb (length row) 1)
  where
    one : Reported
    one = with_report (report_in settings samples words c x out) row (called settings samples words c x out)

    other : Reported
    other = reported_of (left_of (short_number settings) settings samples words out) row

    way : (t : Bool) → 0 < (either t one other).left.number → either t one other ≡ reported_of (left_of (either t one other).left.number settings samples words out) row
    way false h = refl
    way true h =
        rw (ne_eqb (called settings samples words c x out).number 0 (λ z. omega arith))
        (ap (λ (l : Left). reported_of l row) (refused-kept settings samples words c x out h))

-- where the row has one word, the call is the one without it
pub report-called : (settings samples words : List ℤ) (c : Call) (x out row : List ℤ) → length row ≡ 1
    → (reported settings samples words c x out row).left ≡ called settings samples words c x out
unfolding reported with_report
report-called settings samples words c x out row e = rw (eq-eqb (length row) 1 e)

-- `cleaning::rows::settings` meets its contract. Assumes nothing.
use mathlib.Core.Path.{◌≡◌, sym, ap₂, ◌∙◌}
use mathlib.Core.Bool.{true, false}
use lib.IntN.{ℤ}
use Rattle.fixed.specs.Wrap.{wrap16}
use Rattle.fixed.proofs.Fit.{got32}
use Rattle.silk.specs.declared.structs.Settings.{Settings}
use Rattle.silk.proofs.Told.{settings}
use Rattle.counts.specs.Conditions.{voiced}
use Rattle.cleaning.specs.Cleaned.{cleaned_settings}
use Rattle.cleaning.proofs.Places.{kept}
use Rattle.cleaning.proofs.Loops.{cleared}
use Rattle.cleaning.proofs.rows.settings.Goals as goal

-- settings with this warping and this LTP scale
abbrev with_both : Settings → ℤ → ℤ → Settings
with_both s warping scale =
    record {
      subfr_length = s.subfr_length;
      nb_subfr = s.nb_subfr;
      predictLPCOrder = s.predictLPCOrder;
      shapingLPCOrder = s.shapingLPCOrder;
      nStatesDelayedDecision = s.nStatesDelayedDecision;
      warping_Q16 = warping;
      signalType = s.signalType;
      quantOffsetType = s.quantOffsetType;
      NLSFInterpCoef_Q2 = s.NLSFInterpCoef_Q2;
      Seed = s.Seed;
      Lambda_Q10 = s.Lambda_Q10;
      LTP_scale_Q14 = scale;
    }

pub returns-then-voiced : goal.returns-then-voiced
unfolding cleaned_settings
returns-then-voiced c =
    let s = c.args.s in
    let b = settings s c.struct_told-1.given in
    let t : voiced s ≡ true = sym c.voiced.ensures ∙ c.if-voiced.true in
    let v1 : c.low-warping.result ≡ wrap16 s.warping_Q16 = rw b.warping_Q16 at c.low-warping.ensures in
    let v2 : c.low-scale.result ≡ wrap16 s.LTP_scale_Q14 = rw b.LTP_scale_Q14 at c.low-scale.ensures in
    let e1 = got32 c.low-warping.result c.low-warping.type_inv ∙ v1 in
    let e2 = got32 c.low-scale.result c.low-scale.type_inv ∙ v2 in
    ap₂ (with_both s) e1 (e2 ∙ sym (kept (voiced s) (wrap16 s.LTP_scale_Q14) t))

pub returns-else-voiced : goal.returns-else-voiced
unfolding cleaned_settings
returns-else-voiced c =
    let s = c.args.s in
    let b = settings s c.struct_told-1.given in
    let t : voiced s ≡ false = sym c.voiced.ensures ∙ c.if-voiced.false in
    let v1 : c.low-warping.result ≡ wrap16 s.warping_Q16 = rw b.warping_Q16 at c.low-warping.ensures in
    let e1 = got32 c.low-warping.result c.low-warping.type_inv ∙ v1 in
    ap₂ (with_both s) e1 (sym (cleared (voiced s) (wrap16 s.LTP_scale_Q14) t))

-- `clean_page::sheet::clean` meets its contract. Assumes nothing.
use mathlib.Core.Path.{refl, ◌∙◌}
use Rattle.silk.specs.State.{fresh_lag, fresh_state}
use Rattle.clean_page.proofs.Held.{cut, put-back, lent-clean, held-clean}
use Rattle.clean_page.proofs.sheet.clean.Goals as goal

pub returns : goal.returns
unfolding fresh_lag fresh_state
returns c =
    let read = c.args.read.now in
    let out = c.clean-settings.new in
    let same = c.clean-settings.auto in
    let call = c.clean-settings.ensures fresh_state read.lfs.items read.gains.items refl
    ∙ lent-clean read _ _ _ _ _ _ (cut read.pred_coef.items _ _ c.words-pred_coef.ensures c.len.ensures.value)
    (cut read.ltp_coef.items _ _ c.words-ltp_coef.ensures c.len-2.ensures.value)
    (cut read.ar.items _ _ c.words-ar.ensures c.len-3.ensures.value)
    (cut read.harm_gains.items _ _ c.words-harm_gains.ensures c.len-4.ensures.value)
    (cut read.tilts.items _ _ c.words-tilts.ensures c.len-5.ensures.value)
    (cut read.lags.items _ _ c.words-lags.ensures c.len-6.ensures.value) in
    held-clean read _ out.pred out.long out.ar out.harm out.tilt out.lags call refl
    (put-back read.pred_coef.items _ _ _ _ _ c.of.ensures c.words-pred_coef.ensures c.len.ensures.value c.len-7.ensures.value same.pred)
    (put-back read.ltp_coef.items _ _ _ _ _ c.of-2.ensures c.words-ltp_coef.ensures c.len-2.ensures.value c.len-8.ensures.value same.long)
    (put-back read.ar.items _ _ _ _ _ c.of-3.ensures c.words-ar.ensures c.len-3.ensures.value c.len-9.ensures.value same.ar)
    (put-back read.harm_gains.items _ _ _ _ _ c.of-4.ensures c.words-harm_gains.ensures c.len-4.ensures.value c.len-10.ensures.value same.harm)
    (put-back read.tilts.items _ _ _ _ _ c.of-5.ensures c.words-tilts.ensures c.len-5.ensures.value c.len-11.ensures.value same.tilt)
    refl
    refl
    (put-back read.lags.items _ _ _ _ _ c.of-6.ensures c.words-lags.ensures c.len-6.ensures.value c.len-12.ensures.value same.lags)

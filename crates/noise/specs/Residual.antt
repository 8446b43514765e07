-- The residual of one sample before its sign: `NSQ_del_dec.rs`, lines 684 to 692.
-- Assumes nothing.
use Rattle.std.specs.Prelude.{ℤ, ◌+ℤ◌, ◌-ℤ◌}
use Rattle.fixed.specs.Wrap.{wrap32}
use Rattle.fixed.specs.Shift.{rround}

-- tmp1 = n_AR + n_LF, tmp2 = n_LTP + LPC_pred, tmp1 = tmp2 - tmp1
unfoldable pub predicted : ℤ → ℤ → ℤ → ℤ → ℤ
predicted nAR nLF nLTP lpc_pred = wrap32 (wrap32 (nLTP +ℤ lpc_pred) -ℤ wrap32 (nAR +ℤ nLF))

-- r_Q10 = x_Q10 - tmp1, with tmp1 shifted down by 4 and rounded
unfoldable pub residual : ℤ → ℤ → ℤ → ℤ → ℤ → ℤ
residual nAR nLF nLTP lpc_pred xQ10 = wrap32 (xQ10 -ℤ rround (predicted nAR nLF nLTP lpc_pred) 4)

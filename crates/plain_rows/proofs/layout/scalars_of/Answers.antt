-- `plain_rows::layout::scalars_of` meets its contract. Assumes nothing.
use mir.Syntax.{w32}
use Rattle.fixed.proofs.Fit.{back}
use Rattle.plain_rows.specs.Layout.{scalars_of}
use Rattle.plain_rows.proofs.layout.scalars_of.Goals as goal

pub returns : goal.returns
unfolding scalars_of
returns c =
    let u = c.struct_told-1.given.1.1.1.1 in
    let z = c.args.state in
    rw (
      back w32 z.sLF_AR_shp_Q14 u.0.1,
      back w32 z.sDiff_shp_Q14 u.1.0.1,
      back w32 z.lagPrev u.1.1.0.1,
      back w32 z.sLTP_buf_idx u.1.1.1.0.1,
      back w32 z.sLTP_shp_buf_idx u.1.1.1.1.0.1,
      back w32 z.prev_gain_Q16 u.1.1.1.1.1.0.1,
      back w32 z.rewhite_flag u.1.1.1.1.1.1.0.1,
    )

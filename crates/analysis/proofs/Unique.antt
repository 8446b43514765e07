-- Any two outcomes that a public function's contract allows are equal: each contract leaves one. Assumes nothing.
use mathlib.Core.Path.{◌≡◌, sym, ◌∙◌}
use Rattle.analysis.proofs.lpc_analysis_filter.silk_LPC_analysis_filter.Reads as silk-LPC-analysis-filter

pub silk-LPC-analysis-filter-unique : (κs a r s e f : _) → silk-LPC-analysis-filter.Post κs a r e → silk-LPC-analysis-filter.Post κs a s f → e.0.now ≡ f.0.now
silk-LPC-analysis-filter-unique κs a r s e f p q = p ∙ sym q

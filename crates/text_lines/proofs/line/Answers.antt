use Rattle.text_lines.proofs.Parts.{line_here, end_within}
use Rattle.text_lines.proofs.line.Goals as goal

pub slice_bounds-result-end : goal.slice_bounds-result-end
slice_bounds-result-end c = end_within 10 _ _ _ c.line_end-e.ensures (search)

pub returns : goal.returns
returns c = line_here _ _ _ _ c.line_start-at.ensures.0 (search) (search)

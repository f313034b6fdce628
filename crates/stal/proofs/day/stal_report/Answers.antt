use Rattle.stal.proofs.Laws.{day_told}
use Rattle.stal.proofs.day.stal_report.Goals as goal

pub returns : goal.returns
returns c = day_told c.put_figures.ensures c.report.ensures

use mathlib.Core.Path.{ap}
use native.Mathlib.Omega.{arith}
use borrow.Author.Rules.{rules}
use Rattle.text.specs.Bytes.{bytes}
use Rattle.print.specs.Lines.{kind_name}
use Rattle.print_lines.proofs.Laws.{kind_put, junk_name}
use Rattle.print_lines.proofs.put_kind.Goals as goal

pub returns-in-0 : goal.returns-in-0
unfolding kind_name bytes
returns-in-0 c = kind_put c.args.kind (ap kind_name c.in-0.is) (omega arith) c.put.ensures

pub returns-in-1 : goal.returns-in-1
unfolding kind_name bytes
returns-in-1 c = kind_put c.args.kind (ap kind_name c.in-1.is) (omega arith) c.put-in-1.ensures

pub returns-in-2 : goal.returns-in-2
unfolding kind_name bytes
returns-in-2 c = kind_put c.args.kind (ap kind_name c.in-2.is) (omega arith) c.put-in-2.ensures

pub returns-in-3 : goal.returns-in-3
unfolding kind_name bytes
returns-in-3 c = kind_put c.args.kind (ap kind_name c.in-3.is) (omega arith) c.put-in-3.ensures

pub returns-in_default : goal.returns-in_default
unfolding bytes
returns-in_default c =
    kind_put _ (junk_name _ (search rules) (search rules) (search rules) (search rules)) (omega arith) c.put-in_default.ensures

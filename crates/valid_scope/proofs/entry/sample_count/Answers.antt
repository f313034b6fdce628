use Rattle.valid_scope.proofs.entry.Laws.{link_ok, code_low, other_samples, tuple_samples, no_samples}
use Rattle.valid_scope.proofs.entry.sample_count.Goals as goal

pub returns-in_default : goal.returns-in_default
returns-in_default c =
    λ xs. other_samples _ _ _ _ _ c.link-h.ensures c.read_value.ensures.0 xs c.in_default.not-Code

pub samples_in-requires : goal.samples_in-requires
samples_in-requires c =
    let k = code_low _ c.args.parts.now c.args.n c.args.c _ c.link-h.ensures c.read_value.ensures.0 c.in-Code.is (search) in
    (k.2, (link_ok _ _ _ c.link-h.ensures c.requires.0).0)

pub returns-in-Some : goal.returns-in-Some
returns-in-Some c =
    λ xs. tuple_samples _ _ _ _ _ c.link-h.ensures c.read_value.ensures.0 xs c.in-Code.is c.in-Some.is c.samples_in.ensures

pub returns-in-None : goal.returns-in-None
returns-in-None c =
    λ xs. no_samples _ _ _ _ _ c.link-h.ensures c.read_value.ensures.0 xs c.in-Code.is c.in-None.is c.samples_in.ensures

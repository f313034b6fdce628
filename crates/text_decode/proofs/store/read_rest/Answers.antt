use Rattle.text_decode.proofs.store.PutLaws.{form_as, rest_stop, rest_fields, rest_through}
use Rattle.text_decode.proofs.store.read_rest.Goals as goal

pub read_form-requires : goal.read_form-requires
read_form-requires c = (search, search, search, rest_stop _ _ c.requires.2)

pub returns : goal.returns
returns c =
    (form_as _ _ _ _ _ _ _ _ _ (rest_fields _ _ (search)) (search), rest_through _ _ c.requires.2 _ c.read_form.ensures.1, search)

use Rattle.text_decode.proofs.store.PutLaws.{put_all}
use Rattle.text_decode.proofs.store.put_entries.Goals as goal

pub returns : goal.returns
returns c = put_all _ _ _ _ c.requires c.copy_from_slice.ensures.after

use Rattle.text_fields.specs.names.Pieces.{key_place}
use Rattle.text_fields.proofs.names.Names.{row_keys, rows_are, at_key, no_key}
use Rattle.text_fields.proofs.names.row_name.Goals as goal

pub returns-in-329 : goal.returns-in-329
unfolding key_place
returns-in-329 c = at_key _ row_keys _ 329 rows_are c.in-329.is

pub returns-in-334 : goal.returns-in-334
unfolding key_place
returns-in-334 c = at_key _ row_keys _ 334 rows_are c.in-334.is

pub returns-in-342 : goal.returns-in-342
unfolding key_place
returns-in-342 c = at_key _ row_keys _ 342 rows_are c.in-342.is

pub returns-in-341 : goal.returns-in-341
unfolding key_place
returns-in-341 c = at_key _ row_keys _ 341 rows_are c.in-341.is

pub returns-in-336 : goal.returns-in-336
unfolding key_place
returns-in-336 c = at_key _ row_keys _ 336 rows_are c.in-336.is

pub returns-in-323 : goal.returns-in-323
unfolding key_place
returns-in-323 c = at_key _ row_keys _ 323 rows_are c.in-323.is

pub returns-in-328 : goal.returns-in-328
unfolding key_place
returns-in-328 c = at_key _ row_keys _ 328 rows_are c.in-328.is

pub returns-in-325 : goal.returns-in-325
unfolding key_place
returns-in-325 c = at_key _ row_keys _ 325 rows_are c.in-325.is

pub returns-in-344 : goal.returns-in-344
unfolding key_place
returns-in-344 c = at_key _ row_keys _ 344 rows_are c.in-344.is

pub returns-in-331 : goal.returns-in-331
unfolding key_place
returns-in-331 c = at_key _ row_keys _ 331 rows_are c.in-331.is

pub returns-in-321 : goal.returns-in-321
unfolding key_place
returns-in-321 c = at_key _ row_keys _ 321 rows_are c.in-321.is

pub returns-in-322 : goal.returns-in-322
unfolding key_place
returns-in-322 c = at_key _ row_keys _ 322 rows_are c.in-322.is

pub returns-in_default : goal.returns-in_default
returns-in_default c = no_key _ row_keys _ rows_are c.in_default.in_default-own.rest

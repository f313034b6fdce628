use Rattle.text_fields.specs.names.Pieces.{key_place}
use Rattle.text_fields.proofs.names.Names.{instr_keys, instrs_are, at_key, no_key}
use Rattle.text_fields.proofs.names.instr_name.Goals as goal

pub returns-in-23356513 : goal.returns-in-23356513
unfolding key_place
returns-in-23356513 c = at_key _ instr_keys _ 23356513 instrs_are c.in-23356513.is

pub returns-in-23229811 : goal.returns-in-23229811
unfolding key_place
returns-in-23229811 c = at_key _ instr_keys _ 23229811 instrs_are c.in-23229811.is

pub returns-in-23885165 : goal.returns-in-23885165
unfolding key_place
returns-in-23885165 c = at_key _ instr_keys _ 23885165 instrs_are c.in-23885165.is

pub returns-in-24208738 : goal.returns-in-24208738
unfolding key_place
returns-in-24208738 c = at_key _ instr_keys _ 24208738 instrs_are c.in-24208738.is

pub returns-in-6197440098 : goal.returns-in-6197440098
unfolding key_place
returns-in-6197440098 c = at_key _ instr_keys _ 6197440098 instrs_are c.in-6197440098.is

pub returns-in-24405858 : goal.returns-in-24405858
unfolding key_place
returns-in-24405858 c = at_key _ instr_keys _ 24405858 instrs_are c.in-24405858.is

pub returns-in-24407138 : goal.returns-in-24407138
unfolding key_place
returns-in-24407138 c = at_key _ instr_keys _ 24407138 instrs_are c.in-24407138.is

pub returns-in-5997094754 : goal.returns-in-5997094754
unfolding key_place
returns-in-5997094754 c = at_key _ instr_keys _ 5997094754 instrs_are c.in-5997094754.is

pub returns-in-5997096034 : goal.returns-in-5997096034
unfolding key_place
returns-in-5997096034 c = at_key _ instr_keys _ 5997096034 instrs_are c.in-5997096034.is

pub returns-in-24538989 : goal.returns-in-24538989
unfolding key_place
returns-in-24538989 c = at_key _ instr_keys _ 24538989 instrs_are c.in-24538989.is

pub returns-in-91244 : goal.returns-in-91244
unfolding key_place
returns-in-91244 c = at_key _ instr_keys _ 91244 instrs_are c.in-91244.is

pub returns-in-95347 : goal.returns-in-95347
unfolding key_place
returns-in-95347 c = at_key _ instr_keys _ 95347 instrs_are c.in-95347.is

pub returns-in-390805188272493 : goal.returns-in-390805188272493
unfolding key_place
returns-in-390805188272493 c = at_key _ instr_keys _ 390805188272493 instrs_are c.in-390805188272493.is

pub returns-in-1582484972903 : goal.returns-in-1582484972903
unfolding key_place
returns-in-1582484972903 c = at_key _ instr_keys _ 1582484972903 instrs_are c.in-1582484972903.is

pub returns-in-1582484972915 : goal.returns-in-1582484972915
unfolding key_place
returns-in-1582484972915 c = at_key _ instr_keys _ 1582484972915 instrs_are c.in-1582484972915.is

pub returns-in-390805188272499 : goal.returns-in-390805188272499
unfolding key_place
returns-in-390805188272499 c = at_key _ instr_keys _ 390805188272499 instrs_are c.in-390805188272499.is

pub returns-in-1535005320819 : goal.returns-in-1535005320819
unfolding key_place
returns-in-1535005320819 c = at_key _ instr_keys _ 1535005320819 instrs_are c.in-1535005320819.is

pub returns-in-23358579 : goal.returns-in-23358579
unfolding key_place
returns-in-23358579 c = at_key _ instr_keys _ 23358579 instrs_are c.in-23358579.is

pub returns-in-24408947 : goal.returns-in-24408947
unfolding key_place
returns-in-24408947 c = at_key _ instr_keys _ 24408947 instrs_are c.in-24408947.is

pub returns-in-24145011 : goal.returns-in-24145011
unfolding key_place
returns-in-24145011 c = at_key _ instr_keys _ 24145011 instrs_are c.in-24145011.is

pub returns-in-24146803 : goal.returns-in-24146803
unfolding key_place
returns-in-24146803 c = at_key _ instr_keys _ 24146803 instrs_are c.in-24146803.is

pub returns-in-24145258 : goal.returns-in-24145258
unfolding key_place
returns-in-24145258 c = at_key _ instr_keys _ 24145258 instrs_are c.in-24145258.is

pub returns-in-6248227176 : goal.returns-in-6248227176
unfolding key_place
returns-in-6248227176 c = at_key _ instr_keys _ 6248227176 instrs_are c.in-6248227176.is

pub returns-in-399549557403253 : goal.returns-in-399549557403253
unfolding key_place
returns-in-399549557403253 c = at_key _ instr_keys _ 399549557403253 instrs_are c.in-399549557403253.is

pub returns-in_default : goal.returns-in_default
returns-in_default c = no_key _ instr_keys _ instrs_are c.in_default.in_default-own.rest

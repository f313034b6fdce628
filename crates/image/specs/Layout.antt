-- Where the sections of an image stand, by its length.
use Rattle.std.specs.Prelude.{ℕ, cond, ltb}
use Rattle.image.specs.declared.Places.{Places}

-- too short for any text
abbrev pub no_places : Places
no_places = record { rows = 0; blocks = 0; instrs = 0; parts = 0; operands = 0; args = 0; uses = 0; tops = 0; shared = 0; slots = 0; end = 0 }

-- for small texts: 36 rows, 35 with their parts and 34 with their variables, 65 blocks, 88 instructions, 96 operands, 256 arguments
abbrev pub small_places : Places
small_places = record { rows = 0; blocks = 144; instrs = 274; parts = 978; operands = 1573; args = 1957; uses = 2213; tops = 4389; shared = 4423; slots = 4423; end = 4423 }

-- the same, and the rows once more
abbrev pub small_shared_places : Places
small_shared_places = record { rows = 0; blocks = 144; instrs = 274; parts = 978; operands = 1573; args = 1957; uses = 2213; tops = 4389; shared = 4423; slots = 4567; end = 5162 }

-- For every text: 514 rows with their parts, 512 of them with their variables, 65 blocks, 1,025 instructions, 16,400 operands, 32,896
-- arguments. Document 01 allows 512 rows, 64 blocks and 1,024 instructions with at most 16 operands each, and 65,536 bytes, of which an
-- argument takes two; a line is read before its place is looked at, and two rows more stand behind the text's.
abbrev pub large_places : Places
large_places = record { rows = 0; blocks = 2056; instrs = 2186; parts = 10386; operands = 19124; args = 84724; uses = 117620; tops = 150388; shared = 150900; slots = 150900; end = 150900 }

-- the same, and the rows once more
abbrev pub large_shared_places : Places
large_shared_places = record { rows = 0; blocks = 2056; instrs = 2186; parts = 10386; operands = 19124; args = 84724; uses = 117620; tops = 150388; shared = 150900; slots = 152956; end = 161694 }

-- the places in an image of length n
unfoldable pub places_of : ℕ → Places
places_of n =
    cond (ltb n 4423) no_places (cond (ltb n 5162) small_places (cond (ltb n 150900) small_shared_places (cond (ltb n 161694) large_places large_shared_places)))

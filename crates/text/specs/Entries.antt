-- The lines that rows and blocks make: the way back from what a text says (PassOne.antt: rows_of, listings_of).
use Rattle.std.specs.Prelude.{List, [], ◌∷◌, ◌++◌, map}
use Rattle.syntax.specs.Syntax.{Row, Entry, row, block, instr}
use Rattle.text.specs.PassOne.{Listing}

-- each block's line and its instructions
unfoldable pub blocks_entries : List Listing → List Entry
blocks_entries [] = []
blocks_entries (b ∷ bs) = block b.code ∷ (map instr b.body ++ blocks_entries bs)

-- the rows, and then the blocks
unfoldable pub entries_in : List Row → List Listing → List Entry
entries_in rs bs = map row rs ++ blocks_entries bs

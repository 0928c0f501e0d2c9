-- A freed block joins its free neighbours (rule 8.18), with no word of the rest of the heap.
use Rattle.std.specs.Prelude.{List, [], ◌∷◌}
use Rattle.layout.specs.Blocks.{Block}
use Rattle.model.specs.Space.{join_front}

-- these blocks with others behind them: the last joins the first of the others if both are free, and nothing else changes
unfoldable pub append_joined : List Block → List Block → List Block
append_joined [] ys = ys
append_joined (x ∷ []) ys = join_front x ys
append_joined (x ∷ (y ∷ xs)) ys = x ∷ append_joined (y ∷ xs) ys

-- its neighbours are the first block behind it and the last one in front of it
unfoldable pub join_neighbours : List Block → Block → List Block → List Block
join_neighbours xs b ys = append_joined xs (join_front b ys)

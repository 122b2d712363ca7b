use Rattle.user_relations.specs.declared.blocks.TheConstants.{BLOCK_ROWS}
use Rattle.user_relations.proofs.RowBits.{no_bit_of, shared_bits}
use Rattle.user_relations.proofs.blocks.empty_block.Goals as goal

pub returns : goal.returns
returns c = shared_bits _ c.new.result c.new.ensures (no_bit_of c.empty.result c.empty.ensures.none BLOCK_ROWS)

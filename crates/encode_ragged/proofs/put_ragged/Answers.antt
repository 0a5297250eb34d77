-- `encode_ragged::put_ragged` meets its contract: each part has its place, and the parts are the stored values.
-- Assumes nothing.
use Rattle.array.specs.Meaning.{width_of, place_of}
use Rattle.encode_ragged.proofs.Parts.{ragged_put}
use Rattle.encode_ragged.proofs.put_ragged.Goals as goal

pub returns-clause-bytes : goal.returns-clause-bytes
returns-clause-bytes c =
    let a = c.args in
    ragged_put (width_of a.width) (place_of a.place) a.values a.at a.out.now c.width_bytes.ensures c.put-bytes.ensures.wrote c.requires
    c.data_at.ensures c.put-bytes.ensures.bytes c.index_at.ensures c.put_live_index.ensures c.length_at.ensures c.put_u64.ensures

-- `encode_ragged::put_plain` meets its contract: each part has its place, and the parts are the stored values.
-- Assumes nothing.
use Rattle.array.specs.Meaning.{width_of, place_of}
use Rattle.encode_ragged.proofs.Parts.{plain_put}
use Rattle.encode_ragged.proofs.put_plain.Goals as goal

pub returns : goal.returns
returns c =
    let a = c.args in
    plain_put (width_of a.width) (place_of a.place) a.offsets.now a.values.now a.out.now c.width_bytes.ensures c.requires
    c.data_at-data.ensures c.copy_many.ensures c.index_at-start.ensures c.put_index.ensures c.length_at-field.ensures c.put_u64.ensures

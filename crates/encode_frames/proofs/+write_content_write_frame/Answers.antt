-- `encode_frames::write_content` and `encode_frames::write_frame` meet their contracts: a content calls the frame of its level, and a frame the
-- content with one level fewer left.
-- Assumes nothing.
use mathlib.Core.Path.{refl}
use Rattle.array.specs.Outcome.{content_array}
use Rattle.encode_frames.proofs.Frames.{frame_put}
use Rattle.encode_frames.proofs.+write_content_write_frame.Goals as goal

pub write_frame-returns-clause-bytes : goal.write_frame-returns-clause-bytes
write_frame-returns-clause-bytes t c =
    let a = c.args in
    frame_put a.kind (content_array a.live.level.masks.now a.values.now a.offsets.now) a.left a.live refl c.requires.level a.at a.out.now c.mask_length-mask.ensures
    c.write_content-length.ensures.wrote c.requires.room c.write_content-length.ensures.bytes c.put_mask.ensures c.put_u64.ensures c.put_u64-2.ensures

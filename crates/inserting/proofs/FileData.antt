-- File data as the code carries them are what the definition has: the number of the refusal decides on both sides.
use Prim.Native.Nat.{ℕ}
use mathlib.Core.Path.{◌≡◌, refl}
use mathlib.Core.Bool.{Bool, cond, not}
use mathlib.Core.List.{List}
use lib.Dec.{eqb}
use lib.ListN.{length}
use Rattle.laws.proofs.Tests.{by_cond}
use Rattle.header.specs.declared.CommonPduConfig.{CommonPduConfig}
use Rattle.bodies.specs.FileData as body
use Rattle.filestore.specs.File.{segment_fits}
use Rattle.transfer.specs.Segment.{progress_passes, segment_order, segment_refusal, segment_by, segmented_of}
use Rattle.transfer.specs.Put.{put_by, put_of}
use Rattle.transfer.specs.declared.TransferState.{TransferState}
use Rattle.inserting.specs.Insert.{placed, takes_data, other, place_order, body_order, body_refusal, refused_insert, segment_offset, segment_bytes, segment_taken, segment_placed, file_data_placed}
use Rattle.inserting.specs.FileData.{Took, took, taken, took_segment, taken_of, segment_inserted}

module _ (h : ℕ) (notify : Bool) (t : TransferState) (store : List ℕ) where
  -- a segment: 20, 19 or taken
  segment-same : (o : ℕ) (d : List ℕ) → segment_placed notify t o (length d) (segmented_of h t store o d) ≡ placed (segment_inserted h notify t (took_segment o (length d) (put_of t store o d)).left) (put_of t store o d).store
  unfolding segment_placed segment_taken segmented_of segment_by segment_refusal segment_order put_of put_by segment_inserted
  segment-same o d =
      let Same : ℕ → Type 0 = λ n. segment_placed notify t o (length d) (segment_by n h t store o d) ≡ placed (segment_inserted h notify t (took_segment o (length d) (put_by n t store o d)).left) (put_by n t store o d).store in
      by_cond Same (progress_passes t (length d)) 20 _ refl
      (by_cond Same (not (segment_fits (length store) o (length d))) 19 0 refl refl)

  -- file data: 12, 13, 14, or the segment
  pub data_same : (c : CommonPduConfig) (m : Bool) (d : List ℕ) → file_data_placed h notify t store c m d ≡ placed (segment_inserted h notify t (taken_of t store c m d).left) (taken_of t store c m d).store
  unfolding file_data_placed taken_of segment_inserted body_refusal body_order place_order
  data_same c m d =
      let o = segment_offset c m d in
      let bytes = segment_bytes c m d in
      let left : ℕ → Took = λ n. cond (eqb n 0) (took_segment o (length bytes) (put_of t store o bytes)) (took (taken n t.file 0 0) store) in
      let Same : ℕ → Type 0 = λ n. cond (eqb n 0) (segment_placed notify t o (length bytes) (segmented_of h t store o bytes)) (placed (refused_insert n t) store) ≡ placed (segment_inserted h notify t (left n).left) (left n).store in
      by_cond Same (not (takes_data t.step)) 12 _ refl
      (by_cond Same (other t c) 13 _ refl
      (by_cond Same (body.malformed d c.largefile m) 14 0 refl (segment-same o bytes)))

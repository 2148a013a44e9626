-- So many fields are listed, and the others stand in what is left.
use Rattle.std.proofs.Common.{◌≡◌, ◌≤◌, ◌-◌, length, take, drop, map, slice_range}
use Rattle.edge_frames.specs.Fields.{ended, piece_field}
use Rattle.edge_frames.specs.Lists.{field_at}
use Rattle.edge_frames.proofs.list.list.Given as goal

abbrev pub invariant-loop-count : goal.invariant-loop-count
invariant-loop-count l = record {
  low : l.at ≤ l.from;
  high : l.from ≤ l.«end»;
  few : l.count ≤ length l.places;
  some : l.count ≤ length (ended (slice_range l.text l.at l.«end»));
  left : ended (slice_range l.text l.from l.«end») ≡ drop l.count (ended (slice_range l.text l.at l.«end»));
  listed : map (field_at l.text) (take l.count l.places) ≡
      map piece_field (take l.count (ended (slice_range l.text l.at l.«end»)));
}

abbrev pub decreases-loop-count : goal.decreases-loop-count
decreases-loop-count l = length l.initial.places - l.count

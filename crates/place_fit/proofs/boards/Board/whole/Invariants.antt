use Rattle.place_fit.proofs.Common.{AreCores, Chip, Some, is_usable, length, room_left, slice_get, slice_index, ℕ, ◌<◌, ◌^◌, ◌≡◌}
use Rattle.place_fit.proofs.boards.Board.whole.Given as goal

-- the chips so far have their cores and their room
abbrev pub invariant-loop-place : goal.invariant-loop-place
invariant-loop-place l = record {
  cores : length l.cores.items ≡ l.place;
  rooms : length l.rooms ≡ length l.chip-items;
  few : (q : ℕ) → slice_index l.cores.items q < 2 ^ 18;
  free : (q : ℕ) (c : Chip) → q < l.place → slice_get l.chip-items q ≡ Some c → AreCores (is_usable l.machine) c (slice_index l.cores.items q);
  whole : (q : ℕ) → q < l.place → slice_index l.rooms q ≡ room_left (slice_index l.cores.items q) l.sdram;
}

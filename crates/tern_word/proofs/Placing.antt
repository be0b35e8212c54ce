-- A table is sound where each of its rows is well placed.
use Rattle.std.proofs.Common.{ℕ, ◌<◌, List, length, arith}
use Rattle.tern_word.specs.{declared.tables.Row.Row, SoundTable.IsSound, Placed.IsWellPlaced}

pub placed_from_sound : (rows : List Row) → IsSound rows → (at : ℕ) → at < length rows → IsWellPlaced rows at
placed_from_sound rows sound at inside = (
  λ d. sound.inside at d inside,
  λ later d less within. (sound.ordered at later d less within, sound.unmet at later d less within),
)

pub sound_from_placed : (rows : List Row) → ((at : ℕ) → at < length rows → IsWellPlaced rows at) → IsSound rows
sound_from_placed rows placed = record {
  ordered = λ i j d less inside. ((placed i (omega arith)).1 j d less inside).0;
  inside = λ k d inside. (placed k inside).0 d;
  unmet = λ i j d less inside. ((placed i (omega arith)).1 j d less inside).1;
}

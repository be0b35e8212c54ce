-- How many keys the nets of a graph have.
use Rattle.std.proofs.Common.{◌≡◌, ℕ, zero, suc, List, [], ◌∷◌, Some, ap, sym}
use Rattle.std.specs.Prelude.{slice_get}
use Rattle.app_graph.specs.{declared.graphs.Net.Net, RunPart.key_count_of}

-- how many keys the net at a place has
pub keys_of-at : (nets : List Net) (i : ℕ) (n : Net) → slice_get nets i ≡ Some n → n.keys ≡ key_count_of nets i
unfolding key_count_of
keys_of-at [] i n e = absurd cc
keys_of-at (m ∷ nets) zero n e = let same : m ≡ n = cc in ap (λ (k : Net). k.keys) (sym same)
keys_of-at (m ∷ nets) (suc i) n e = keys_of-at nets i n e

-- Why nets have no keys (this project's own).
use Rattle.std.specs.Prelude.{List}
use Rattle.app_graph.specs.declared.graphs.Net.{Net}
use Rattle.key_alloc.specs.declared.alloc.KeyErr.{KeyErr}
use Rattle.key_alloc.specs.declared.alloc.KeyErr.TheVariants.{KeysOut, Memory}
use Rattle.key_alloc.specs.KeyBlocks.{AreKeysOut}

abbrev pub IsKeysCause : List Net → KeyErr → Type 0
IsKeysCause nets (KeysOut net) = AreKeysOut nets net
IsKeysCause nets Memory = Unit {0}

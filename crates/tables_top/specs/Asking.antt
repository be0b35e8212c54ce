-- Tables as a kind of input (this project's own).
use Rattle.serde_json.specs.Data.{Data}
use Rattle.table_readers.specs.Asking.{asked_value}
use Rattle.tables_top.specs.declared.inputs.TablesInput.{TablesInput}

abbrev pub input_value : Data → TablesInput
input_value d = record { asked = asked_value d }

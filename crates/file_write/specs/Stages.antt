-- How the private functions name the octets of one record.
use Rattle.std.specs.Prelude.{List, ℕ}
use Rattle.port.specs.declared.Port.{Port}
use Rattle.table.specs.Renumbering.{LentTable}
use Rattle.file_format.specs.Format.{octets}
use Rattle.file_port.specs.PortFormat.{port_format}
use Rattle.file_table.specs.TableFormat.{table_format, fields_of}

unfoldable pub port_octets : Port → List ℕ
port_octets p = octets (port_format 3) p

unfoldable pub table_octets : LentTable → List ℕ
table_octets x = octets (table_format 3) (fields_of x)

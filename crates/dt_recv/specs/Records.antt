-- The receive record that the code keeps, as the model's.
use Rattle.std.specs.Prelude.{Option, Some, None}
use Rattle.dt_recv.specs.declared.records.Record.{Record}
use Rattle.dt_flow_model.specs.ReceiveRecord.{ReceiveRecord}

abbrev pub receive_record_of : Record → ReceiveRecord
receive_record_of y = record { expected = y.expected; touched = y.touched.ms; due = y.due; told = y.told }

abbrev pub standing_of : Option Record → Option ReceiveRecord
standing_of None = None
standing_of (Some y) = Some (receive_record_of y)

-- With which status a call ends, and which number tells it.
use Rattle.std.specs.Prelude.{ℕ}
use Rattle.bc_output.specs.declared.message.Message.{Message}
use Rattle.bc_output.specs.declared.message.Message.TheVariants as message
use Rattle.bc_output.specs.declared.message.Origin.TheVariants as origin
use Rattle.bc_output.specs.declared.status.Status.{Status}
use Rattle.bc_output.specs.declared.status.Status.TheVariants as status

abbrev pub number_of : Status → ℕ
number_of status.Done = 0
number_of status.Usage = 2
number_of status.Trace = 3
number_of status.Superblock = 4
number_of status.Image = 5
number_of status.Device = 6
number_of status.Source = 7
number_of status.Sink = 8
number_of status.Memory = 9

-- the status of a call that ends with this message
abbrev pub status_of : Message → Status
status_of message.Usage = status.Usage
status_of (message.Trace line why) = status.Trace
status_of (message.Superblock device number) = status.Superblock
status_of (message.Image number) = status.Image
status_of message.Unserved = status.Image
status_of (message.Unsound line) = status.Image
status_of (message.Fault (origin.Disk device)) = status.Device
status_of (message.Fault origin.Source) = status.Source
status_of message.Memory = status.Memory

-- The line of a message, its newline included.
use Rattle.std.specs.Prelude.{ℕ, List, ◌++◌, codes}
use Rattle.std.specs.Fmt.{decimal}
use Rattle.bc_script.specs.Answer.{device_text}
use Rattle.bc_script.specs.Trace.{ended}
use Rattle.bc_output.specs.declared.message.Origin.{Origin}
use Rattle.bc_output.specs.declared.message.Origin.TheVariants.{Disk, Source}
use Rattle.bc_output.specs.declared.message.Message.{Message}
use Rattle.bc_output.specs.declared.message.Message.TheVariants.{Usage, Trace, Superblock, Image, Unserved, Unsound, Fault, Memory}

abbrev pub origin_text : Origin → List ℕ
origin_text (Disk device) = device_text device
origin_text Source = codes "source"

-- its words
abbrev pub words_of : Message → List ℕ
words_of Usage = codes "usage"
words_of (Trace line why) = codes "trace " ++ decimal line ++ codes " " ++ decimal why
words_of (Superblock device number) =
    codes "superblock " ++ device_text device ++ codes " " ++ decimal number
words_of (Image number) = codes "image " ++ decimal number
words_of Unserved = codes "unserved"
words_of (Unsound line) = codes "unsound " ++ decimal line
words_of (Fault origin) = codes "fault " ++ origin_text origin
words_of Memory = codes "memory"

abbrev pub message_text : Message → List ℕ
message_text message = ended (words_of message)

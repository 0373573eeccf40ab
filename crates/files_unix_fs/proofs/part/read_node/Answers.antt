use Rattle.std.proofs.Common.{subst}
use Rattle.files_unix_fs.specs.Messages.{SaysNothing}
use Rattle.files_unix_fs.specs.Reading.{asked}
use Rattle.files_unix_fs.proofs.Parts.{no_data, no_message}
use Rattle.files_unix_fs.proofs.part.read_node.Goals as goal

pub returns-in-Err-NoData : goal.returns-in-Err-NoData
returns-in-Err-NoData c =
    let nothing = subst (λ e. SaysNothing e c.args.block.now) c.in-Err-NoData.field-0-is c.in-Err-NoData.ensures in
    ((c.requires.codec, nothing), no_data (asked c.args.wanted.now) c.args.block.now c.requires.codec c.requires.deep nothing.1)

pub returns-in-Err-NoMessage : goal.returns-in-Err-NoMessage
returns-in-Err-NoMessage c =
    let nothing = subst (λ e. SaysNothing e c.args.block.now) c.in-Err-NoMessage.field-0-is c.in-Err-NoMessage.ensures in
    rw (c.in-Err-NoMessage.fault-is) ((c.requires.codec, nothing), no_message (asked c.args.wanted.now) c.args.block.now nothing.1.0 _ c.requires.codec c.requires.deep nothing.1.1 nothing.1.2)

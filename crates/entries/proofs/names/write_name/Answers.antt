use Rattle.std.proofs.Common.{arith}
use Rattle.general.proofs.Parts.{put_mid-over}
use Rattle.entries.proofs.names.write_name.Goals as goal

pub returns : goal.returns
returns c = rw c.copy_from_slice.ensures.after (put_mid-over c.args.store.now _ _ _ (omega arith))

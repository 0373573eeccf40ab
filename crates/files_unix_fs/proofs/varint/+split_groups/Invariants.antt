use Rattle.files_unix_fs.proofs.varint.+split_groups.Given as goal

abbrev pub decreases-split_groups : goal.decreases-split_groups
decreases-split_groups l = l.more

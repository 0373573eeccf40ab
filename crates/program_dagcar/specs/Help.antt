-- What the program says about itself.
use Rattle.std.specs.Prelude.{ℕ, List, codes}

-- what `--help` writes
abbrev pub help_text : List ℕ
help_text = codes "usage: dagcar check [--summary] [FILE]\n       dagcar inspect [--json] [FILE]\n       dagcar verify|list|name|one|show|make [FILE]\n       dagcar get|tree CID [FILE]\n       dagcar at [--raw] CID/PATH [FILE]\n       dagcar prove CID/PATH [FILE]\n       dagcar ls|cat CID/PATH [FILE]\n       dagcar records [--json] [FILE]\n       dagcar record KEY [FILE]\n       dagcar record-proof KEY [FILE]\n       dagcar commit [FILE]\n       dagcar changes OLD NEW\n       dagcar filter [--root CID].. --codec CODEC|--names LIST [FILE]\n       dagcar merge [--root CID].. FILE FILE..\n       dagcar split [--root CID].. --size BYTES FILE PREFIX\n       dagcar index FILE\n       dagcar check|list --index FILE\n       dagcar event [FILE]\n\nCAR files (version 1 or 2); FILE may be left out, or be -, for standard input:\n  check    validate each block, and report links to missing blocks; --summary counts them;\n           for a named FILE also validate its index, and with --index only that\n  inspect  count what the file holds; --json writes the counts as JSON\n  verify   validate each block\n  list     list the roots, and the CID and length of each block; --index lists the index\n  get      write the block with this CID\n  tree     write a CAR file of the blocks that links lead to from this CID\n  at       write the data at this path as DAG-JSON; --raw writes its bytes\n  prove    write a CAR file of the blocks on this path, from which at gives the same answer\n  ls       list the IPFS directory at this path of names\n  cat      write the IPFS file at this path of names\n  records  list the keys and CIDs of a repository's records (AT Protocol); --json writes\n           each record's CID, key and data as a line of DAG-JSON\n  record   write the record with this key as DAG-JSON\n  record-proof  write a CAR file of the blocks that prove the record with this key, or that\n           there is none\n  commit   show the commit of a repository\n  changes  list the keys whose records differ between two repositories, and their CIDs\n  filter   write a CAR file of the blocks with this codec, or with the CIDs in a list\n  merge    write one CAR file of the sections of several, each right block once\n  split    write the blocks in order to PREFIX-0.car, PREFIX-1.car and so on, files of at\n           most BYTES bytes, or of one block\n  index    write the same file in version 2 with an index, by which get and at find blocks\n\nFrames of the event stream of a repository host (AT Protocol), one after another:\n  event    verify each commit from its frame alone, and list the changes that it makes\n\nBlocks of DAG-CBOR:\n  name     write the CID of the block\n  one      validate the block, and write its kind\n  show     write the data of the block as DAG-JSON\n  make     the reverse of show: write the block of data in DAG-JSON\n\nFor example:\n  dagcar check blocks.car\n  dagcar prove CID/a/0 blocks.car > proof.car\n  dagcar at CID/a/0 proof.car\n  dagcar at --raw CID/a/0 proof.car | dagcar one\n  dagcar records repo.car\n\nThe exit status is 0 if all is well, 1 if something is wrong, 2 if the command did not finish.\n"

-- what `--version` writes
abbrev pub version_text : List ℕ
version_text = codes "dagcar 0.7.0\n"

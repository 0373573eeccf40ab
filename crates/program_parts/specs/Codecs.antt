-- The names of codecs (multicodec table).
use Rattle.std.specs.Prelude.{ℕ, List, ◌++◌, codes, false, Option, None, Some, if◌then◌else◌, ◌==◌}
use Rattle.std.specs.Fmt.{digits}

-- the usual name of a codec, if it has one
abbrev pub codec_name : ℕ → Option (List ℕ)
codec_name codec = if codec == 0x55 then Some (codes "raw")
    else (if codec == 0x70 then Some (codes "dag-pb")
    else (if codec == 0x71 then Some (codes "dag-cbor")
    else (if codec == 0x72 then Some (codes "libp2p-key")
    else (if codec == 0x0129 then Some (codes "dag-json")
    else (if codec == 0x0200 then Some (codes "json")
    else None)))))

-- the name, if there is one; else the number in hexadecimal
abbrev pub named_or : ℕ → Option (List ℕ) → List ℕ
named_or codec None = codes "codec 0x" ++ digits 16 false codec
named_or codec (Some name) = name

-- a codec in words
abbrev pub codec_text : ℕ → List ℕ
codec_text codec = named_or codec (codec_name codec)

-- Names that are kept whole.
use Rattle.std.proofs.Common.{◌≡◌, ℕ, ◌≤◌, List, length, ◌∙◌, subst, sym, arith}
use Rattle.dagcbor_core.specs.Names.{Names, name_bytes}
use Rattle.dagcbor_core.specs.declared.name.Name.{Name}
use Rattle.dagcbor_decode.specs.Told.{name}
use Rattle.dagcbor_decode.specs.declared.cause.Label.{Label}
use Rattle.dagcbor_decode.specs.declared.cause.Label.TheVariants as label
use Rattle.dagcbor_core.proofs.Keeping.{kept_whole}

pub named : (kept : Name) (text wanted : List ℕ) → Names kept text → text ≡ wanted → length wanted ≤ 31 → name_bytes kept ≡ wanted
named kept text wanted n e short = kept_whole n.kept (subst (λ s. length s ≤ 31) (sym e) short) ∙ e

pub label_short : (l : Label) → length (name l) ≤ 31
label_short label.Any = omega arith
label_short label.U64 = omega arith
label_short label.Bytes = omega arith
label_short label.Text = omega arith
label_short label.Array = omega arith
label_short label.Map = omega arith
label_short label.MapKey = omega arith
label_short label.Cid = omega arith
label_short label.Tag = omega arith
label_short label.CborTag = omega arith
label_short label.TagHead = omega arith

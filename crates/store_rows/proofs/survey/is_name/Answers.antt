use Rattle.store_rows.proofs.Surveying.{named_blob}
use Rattle.store_rows.proofs.survey.is_name.Goals as goal

pub returns-in-Blob : goal.returns-in-Blob
returns-in-Blob c = rw c.in-Blob.is (named_blob c.in-Blob.bytes.now c.is_cid.result c.is_cid.ensures)

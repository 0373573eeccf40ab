use Rattle.atproto_mst.proofs.Ways.{records_decided, ways_lead}
use Rattle.atproto_mst.proofs.laws.ways_decide_records.Goals as goal

pub returns-clause-same : goal.returns-clause-same
returns-clause-same c = records_decided

pub returns-clause-answered : goal.returns-clause-answered
returns-clause-answered c = ways_lead

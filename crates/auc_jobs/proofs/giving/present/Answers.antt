use Rattle.auc_jobs.specs.InnerUsims.{usim_of}
use Rattle.auc_random.specs.Random.{rand_of}
use Rattle.auc_jobs.proofs.UsimLemmas.{challenged, challenged_keys, never_wrong_of, challenged_secrets, accepted_keys, presents_accepted, presents_failure}
use Rattle.auc_jobs.proofs.giving.present.Goals as goal

pub unreachable-requires : goal.unreachable-requires
unreachable-requires c = let made = c.vector_at-made.ensures.row in
    never_wrong_of c.args.set.now.rows (usim_of c.args.set.now.rows c.args.world.now) c.args.sub c.args.n (rand_of c.args.set.now.key c.args.sub c.args.n) c.vector_at-made.result c.challenge.result _ made.row
    made.there made.is_row made.made c.requires.last c.challenge.ensures.answer c.requires.usims c.in-WrongMac.is

pub returns-in-Accepted-clause-presented : goal.returns-in-Accepted-clause-presented
returns-in-Accepted-clause-presented c = λ lines behind. let made = c.vector_at-made.ensures.row in
    presents_accepted c.args.set.now.rows lines (usim_of c.args.set.now.rows c.args.world.now) c.args.sub c.args.n (rand_of c.args.set.now.key c.args.sub c.args.n) made.row.amf
    c.in-Accepted.res c.in-Accepted.ck c.in-Accepted.ik c.in-Accepted.ak c.in-Accepted.amf c.in-Accepted.sqn _ made.row
    (challenged c.args.set.now.rows lines (usim_of c.args.set.now.rows c.args.world.now) c.args.sub c.args.n (rand_of c.args.set.now.key c.args.sub c.args.n) c.vector_at-made.result _ _ made.row
    made.there made.is_row made.made c.requires.last c.in-Accepted.ensures.answer c.requires.usims behind)

pub returns-in-Accepted-clause-usims : goal.returns-in-Accepted-clause-usims
returns-in-Accepted-clause-usims c = challenged_secrets c.args.set.now.rows (usim_of c.args.set.now.rows c.args.world.now) _ c.args.sub _ _ _ c.challenge.ensures.answer c.requires.usims

pub returns-in-SyncFailure-clause-presented : goal.returns-in-SyncFailure-clause-presented
returns-in-SyncFailure-clause-presented c = λ lines behind. let made = c.vector_at-made.ensures.row in
    presents_failure c.args.set.now.rows lines (usim_of c.args.set.now.rows c.args.world.now) c.args.sub c.args.n (rand_of c.args.set.now.key c.args.sub c.args.n) made.row.amf
    c.in-SyncFailure.auts c.in-SyncFailure.sqn _ made.row
    (challenged c.args.set.now.rows lines (usim_of c.args.set.now.rows c.args.world.now) c.args.sub c.args.n (rand_of c.args.set.now.key c.args.sub c.args.n) c.vector_at-made.result _ _ made.row
    made.there made.is_row made.made c.requires.last c.in-SyncFailure.ensures.answer c.requires.usims behind)

pub returns-in-SyncFailure-clause-usims : goal.returns-in-SyncFailure-clause-usims
returns-in-SyncFailure-clause-usims c = challenged_secrets c.args.set.now.rows (usim_of c.args.set.now.rows c.args.world.now) _ c.args.sub _ _ _ c.challenge.ensures.answer c.requires.usims

pub returns-in-Accepted-clause-keyed : goal.returns-in-Accepted-clause-keyed
returns-in-Accepted-clause-keyed c = challenged_keys (usim_of c.args.set.now.rows c.args.world.now) _ c.args.sub _ _ _ c.challenge.ensures.answer

pub returns-in-SyncFailure-clause-keyed : goal.returns-in-SyncFailure-clause-keyed
returns-in-SyncFailure-clause-keyed c = challenged_keys (usim_of c.args.set.now.rows c.args.world.now) _ c.args.sub _ _ _ c.challenge.ensures.answer

pub returns-in-Accepted-clause-accepted : goal.returns-in-Accepted-clause-accepted
returns-in-Accepted-clause-accepted c = λ row there. let made = c.vector_at-made.ensures.row in
    accepted_keys c.args.set.now.rows (usim_of c.args.set.now.rows c.args.world.now) c.args.sub c.args.n (rand_of c.args.set.now.key c.args.sub c.args.n) c.vector_at-made.result
    c.in-Accepted.res c.in-Accepted.ck c.in-Accepted.ik c.in-Accepted.ak c.in-Accepted.amf c.in-Accepted.sqn _ made.row row
    made.there made.is_row made.made c.requires.last c.in-Accepted.ensures.answer c.requires.usims there

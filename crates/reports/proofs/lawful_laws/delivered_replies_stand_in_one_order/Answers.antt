use Rattle.reports.proofs.Orders.{delivered_replies_stand_in_one_order as law}
use Rattle.reports.proofs.lawful_laws.delivered_replies_stand_in_one_order.Goals as goal

pub returns : goal.returns
returns c = law

pub mod LastOrders
